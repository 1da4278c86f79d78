use Rattle.std.proofs.Common.{◌≡◌, refl, sym, ◌∙◌, ap, subst, ℕ, List, Option}
use Rattle.std.specs.Prelude.{IfSome, IfNone}
use Rattle.std.proofs.lemmas.Bool.{false≢true}
use Rattle.std.proofs.lemmas.Result.{err_from_is_err_and}
use Rattle.pt_sector.specs.Sectors.{Sectors, sector}
use Rattle.pt_sector.specs.declared.address.Lba.{Lba}
use Rattle.pt_mbr.specs.declared.ebr.Ebr.{Ebr}
use Rattle.pt_cases.specs.Writes.{link_to, IsEbrOver, IsEbrMade, IsEbrTarget}
use Rattle.pt_cases.specs.Unplanned.{FitsEbr, IsUnmadeEbr}
use Rattle.pt_planner.specs.inner.Places.{AreEbr}
use Rattle.pt_planner.proofs.Whole.{over_is, made_is, over_unmade, made_unmade}
use Rattle.pt_planner.proofs.chains.push_ebr.Goals as goal
use Rattle.pt_planner.proofs.chains.push_ebr.Goals.{then-stands_at, else-stands_at}

pub returns-in_err-read_sector : goal.returns-in_err-read_sector
returns-in_err-read_sector g c =
    let p = err_from_is_err_and c.from_residual.result c.from_residual.ensures.1 in
    record {
      same = c.in_err-read_sector.ensures.same;
      blames = rw (p.1, p.2) c.in_err-read_sector.ensures.blames;
      failed = rw (p.1, p.2) (ap (λ (l : Lba). l.0) c.in_err-read_sector.ensures.fault);
      added = rw p.1 tt;
      none = λ tells. rw p.1 tt;
    }

pub returns-in_err-push_target-in-Some : goal.returns-in_err-push_target-in-Some
returns-in_err-push_target-in-Some g c =
    let p = err_from_is_err_and c.from_residual-in_err-push_target-in-Some.result
    c.from_residual-in_err-push_target-in-Some.ensures.1 in
    record {
      same = c.in_ok-read_sector.ensures.same;
      blames = rw (p.1, p.2) c.in_ok-read_sector.ensures.blames;
      failed = rw (p.1, p.2) tt;
      added = rw p.1 tt;
      none = λ tells. rw p.1 tt;
    }

pub returns-in_ok-push_target-in-Some : goal.returns-in_ok-push_target-in-Some
returns-in_ok-push_target-in-Some g c =
    let e : Ebr = c.args.ebr.now in
    let first : ℕ = c.args.first.0 in
    let is : (d : Sectors) → c.read_sector.new.into ≡ sector d e.at.0
    → IsEbrTarget g.row.B d c.args.old.now first e (link_to first c.args.rest.now) c.in-Some.bytes =
    λ d holds. elim c.if-stands_at.branch [
      | then-stands_at w ↦ over_is g.row.B d c.args.old.now first e
          (link_to first c.args.rest.now) c.read_sector.new.into c.in-Some.bytes holds (c.stands_at.ensures.0 w.if-stands_at.true)
          (subst (λ (o : Option (List ℕ)). IfSome o
          (λ v. (x : Ebr) × IsEbrOver first e x (link_to first c.args.rest.now) c.read_sector.new.into v))
          (sym w.found-is ∙ c.in-Some.is) w.ebr_over-found.ensures.some)
      | else-stands_at w ↦ made_is g.row.B d c.args.old.now first e (link_to first c.args.rest.now) c.in-Some.bytes
          (λ at. false≢true (sym w.if-stands_at.false ∙ c.stands_at.ensures.1 at))
          (subst (λ (o : Option (List ℕ)). IfSome o (λ v. IsEbrMade g.row.B first e (link_to first c.args.rest.now) v))
          (sym w.found-is ∙ c.in-Some.is) w.ebr_made-found.ensures.some)
    ] in
    record {
      same = c.in_ok-read_sector.ensures.same;
      blames = c.in_ok-read_sector.ensures.blames;
      failed = tt;
      added = λ good. record {
        target = _;
        pushed = c.in_ok-push_target-in-Some.ensures;
        is = (
          refl,
          λ tells. (let holds = c.in_ok-read_sector.ensures.bytes tells in record { at = refl; under = holds; is = is _ holds }),
        );
      };
      none = λ tells bad. absurd (false≢true (sym bad));
    }

pub returns-in-None : goal.returns-in-None
returns-in-None g c = record {
  same = c.in_ok-read_sector.ensures.same;
  blames = c.in_ok-read_sector.ensures.blames;
  failed = tt;
  added = λ good. absurd (false≢true good);
  none = λ tells bad.
      let d : Sectors = (g.D.Disk.told c.args.disk.now).seen in
      let e : Ebr = c.args.ebr.now in
      let es : List Ebr = c.args.rest.now in
      let under : List ℕ = c.read_sector.new.into in
      let holds : under ≡ sector d e.at.0 = c.in_ok-read_sector.ensures.bytes tells in
      let first : ℕ = c.args.first.0 in
      let unmade : IsUnmadeEbr g.row.B d c.args.old.now first e es = elim c.if-stands_at.branch [
        | then-stands_at w ↦ over_unmade g.row.B d c.args.old.now first e es under holds (c.stands_at.ensures.0 w.if-stands_at.true)
            (subst (λ (o : Option (List ℕ)). IfNone o ((x : Ebr) (v : List ℕ) → ¬ IsEbrOver first e x (link_to first es) under v))
            (sym w.found-is ∙ c.in-None.is) w.ebr_over-found.ensures.none)
            (subst (λ (o : Option (List ℕ)). IfNone o (¬ (FitsEbr first e es × AreEbr e under)))
            (sym w.found-is ∙ c.in-None.is) w.ebr_over-found.ensures.unfit)
        | else-stands_at w ↦ made_unmade g.row.B d c.args.old.now first e es
            (λ at. false≢true (sym w.if-stands_at.false ∙ c.stands_at.ensures.1 at))
            (subst (λ (o : Option (List ℕ)). IfNone o ((v : List ℕ) → ¬ IsEbrMade g.row.B first e (link_to first es) v))
            (sym w.found-is ∙ c.in-None.is) w.ebr_made-found.ensures.none)
            (subst (λ (o : Option (List ℕ)). IfNone o (¬ FitsEbr first e es)) (sym w.found-is ∙ c.in-None.is)
            w.ebr_made-found.ensures.unfit)
      ] in
      unmade;
}
