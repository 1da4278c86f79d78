use Rattle.std.proofs.Common.{refl, sym, ap, subst, ℕ, List, Option}
use Rattle.std.specs.Prelude.{IfSome, IfNone}
use Rattle.std.proofs.lemmas.Bool.{false≢true}
use Rattle.std.proofs.lemmas.Result.{err_from_is_err_and}
use Rattle.pt_sector.specs.declared.address.Lba.{Lba}
use Rattle.pt_mbr.specs.Changes.{ArePlain}
use Rattle.pt_cases.specs.Writes.{IsHeadTarget}
use Rattle.pt_planner.specs.inner.Places.{AreMbr}
use Rattle.pt_planner.proofs.Whole.{head_unmade}
use Rattle.pt_planner.proofs.chains.push_head.Goals as goal

pub returns-in_err-read_sector : goal.returns-in_err-read_sector
returns-in_err-read_sector g c =
    let p = err_from_is_err_and c.from_residual.result c.from_residual.ensures.1 in
    record {
      same = c.in_err-read_sector.ensures.same;
      blames = rw (p.1, p.2) c.in_err-read_sector.ensures.blames;
      failed = rw (p.1, p.2) (ap (λ (l : Lba). l.0) c.in_err-read_sector.ensures.fault);
      added = rw p.1 tt;
      none = λ tells. rw p.1 tt;
    }

pub returns-in_err-push_target-in-Some : goal.returns-in_err-push_target-in-Some
returns-in_err-push_target-in-Some g c =
    let p = err_from_is_err_and c.from_residual-in_err-push_target-in-Some.result
    c.from_residual-in_err-push_target-in-Some.ensures.1 in
    record {
      same = c.in_ok-read_sector.ensures.same;
      blames = rw (p.1, p.2) c.in_ok-read_sector.ensures.blames;
      failed = rw (p.1, p.2) tt;
      added = rw p.1 tt;
      none = λ tells. rw p.1 tt;
    }

pub returns-in_ok-push_target-in-Some : goal.returns-in_ok-push_target-in-Some
returns-in_ok-push_target-in-Some g c = record {
  same = c.in_ok-read_sector.ensures.same;
  blames = c.in_ok-read_sector.ensures.blames;
  failed = tt;
  added = λ good. record {
    target = _;
    pushed = c.in_ok-push_target-in-Some.ensures;
    is = (
      refl,
      λ tells. (let holds = c.in_ok-read_sector.ensures.bytes tells in record {
        at = refl;
        under = holds;
        is = subst (λ (u : List ℕ). IsHeadTarget c.args.old.now c.args.new.now u c.in-Some.bytes) holds
            (subst (λ (o : Option (List ℕ)). IfSome o (λ v. IsHeadTarget c.args.old.now c.args.new.now c.read_sector.new.into v))
            c.in-Some.is c.head_target.ensures.some);
      }),
    );
  };
  none = λ tells bad. absurd (false≢true (sym bad));
}

pub returns-in-None : goal.returns-in-None
returns-in-None g c = record {
  same = c.in_ok-read_sector.ensures.same;
  blames = c.in_ok-read_sector.ensures.blames;
  failed = tt;
  added = λ good. absurd (false≢true good);
  none = λ tells bad.
      let under : List ℕ = c.read_sector.new.into in
      head_unmade (g.D.Disk.told c.args.disk.now).seen c.args.old.now c.args.new.now under (c.in_ok-read_sector.ensures.bytes tells)
      (subst (λ (o : Option (List ℕ)). IfNone o
      ((v : List ℕ) → ¬ IsHeadTarget c.args.old.now c.args.new.now under v)) c.in-None.is c.head_target.ensures.none)
      (subst (λ (o : Option (List ℕ)). IfNone o
      (¬ (ArePlain c.args.new.now × AreMbr c.args.old.now under))) c.in-None.is c.head_target.ensures.unfit);
}
