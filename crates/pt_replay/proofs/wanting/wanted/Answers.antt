use Rattle.std.proofs.Common.{ℕ, List, inr, subst}
use Rattle.pt_replay.specs.Wanted.{disk_of}
use Rattle.pt_replay.specs.inner.Wanted.{GivesList}
use Rattle.pt_replay.proofs.Unknown.{gives_wanted, lists_in_view}
use Rattle.pt_replay.proofs.wanting.wanted.Goals as goal

pub returns-in-Ok : goal.returns-in-Ok
returns-in-Ok g c = record {
  says = let d = disk_of g.row.B c.args.view.now c.args.elsewhere.items in
      inr (
        c.in-Some.ensures.is_view,
        gives_wanted g.row.B c.args.view.now d c.in-Ok.list.items _ _ _ _
            (lists_in_view g.row.B c.args.view.now d _ _ _ _ _ c.in-Some.ensures.view c.in-Some.ensures.seen c.in-Ok.ensures.ok)
            (subst (λ (list : List ℕ). GivesList list c.args.sectors.now c.put_sectors.new.sectors c.put_sectors.result.status
            c.put_sectors.result.reply) c.as_slice.ensures.value c.put_sectors.ensures.gives),
      );
}
