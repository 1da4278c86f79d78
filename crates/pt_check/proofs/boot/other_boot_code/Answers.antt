use Rattle.std.proofs.Common.{rules, ◌≡◌, ◌∙◌, ℕ, zero, suc, ◌*◌, ◌<◌, true, false, List, take, inl, inr, Option, Some, None, refl, ap}
use Rattle.std.proofs.Common.{subst, arith}
use Rattle.std.specs.Option.{is_some}
use Rattle.std.proofs.lemmas.Result.{err_from_is_err_and}
use Rattle.pt_sector.specs.Sectors.{IsSectorSize, Writes}
use Rattle.pt_apply.specs.Plans.{phases_of, writes_in, NoneIs}
use Rattle.pt_check.specs.inner.Answers.{FirstWriteIs}
use Rattle.pt_check.specs.declared.writes.Found.{Found}
use Rattle.pt_check.proofs.Firsts.{first_number}
use Rattle.pt_sector.specs.declared.address.Lba.{Lba}
use Rattle.pt_check.proofs.Reading.{head_written}
use Rattle.pt_check.proofs.boot.other_boot_code.Goals as goal

abbrev Changes : List ℕ → ℕ × List ℕ → Type 0
Changes kept w = (w.0 ≡ 0) × ¬ (take 440 w.1 ≡ kept)

-- a disk without sectors, which no write is within
no_sectors : (kept : List ℕ) (n m : ℕ) (ws : Writes) → m ≡ n → m ≡ 0 → NoneIs (λ (w : ℕ × List ℕ). ¬ (w.0 < n)) ws
    → NoneIs (Changes kept) ws
no_sectors kept n m ws same none nothing = λ k w here is. nothing k w here (λ lt. absurd (omega (arith, lt, same, none)))

-- a plan that doesn't write sector 0
none_of_0 : (kept : List ℕ) (ws : Writes) (found : Option Found) → is_some found ≡ false
    → FirstWriteIs (λ (w : ℕ × List ℕ). w.0 ≡ 0) ws found → NoneIs (Changes kept) ws
none_of_0 kept ws None none nothing = λ k w here is. nothing k w here is.0
none_of_0 kept ws (Some f) none first = absurd (let no : true ≡ false = none in cc)

small : (b : ℕ) → IsSectorSize b → b * 1 < 9223372036854775808
small b (inl is) = omega (arith, is)
small b (inr is) = omega (arith, is)

some_sector : (n m : ℕ) → m ≡ n → ¬ (m ≡ 0) → 0 < n
some_sector n zero same some = absurd (some refl)
some_sector n (suc m) same some = omega (arith, same)

pub returns-then-sectors-eq0-clause-found : goal.returns-then-sectors-eq0-clause-found
returns-then-sectors-eq0-clause-found g c =
    λ tells. no_sectors _ _ _ _ c.sectors.ensures c.if-sectors-eq0.true c.requires.inside

pub first_in_plan-requires : goal.first_in_plan-requires
first_in_plan-requires g c = (search rules, (c.requires.size, c.requires.few))

pub returns-then-is_none-clause-found : goal.returns-then-is_none-clause-found
returns-then-is_none-clause-found g c = λ tells. none_of_0 _ _ c.first_in_plan.result c.if-is_none.ensures c.first_in_plan.ensures

pub read_sector-requires : goal.read_sector-requires
read_sector-requires g c = (small g.row.B c.requires.size, some_sector _ _ c.sectors.ensures c.if-sectors-eq0.false)

pub returns-in_err-read_sector-clause-same : goal.returns-in_err-read_sector-clause-same
returns-in_err-read_sector-clause-same g c = c.in_err-read_sector.ensures.same

pub returns-in_err-read_sector-clause-blames : goal.returns-in_err-read_sector-clause-blames
returns-in_err-read_sector-clause-blames g c =
    let p = err_from_is_err_and c.from_residual.result c.from_residual.ensures.1 in
    rw (p.1, p.2) c.in_err-read_sector.ensures.blames

pub first_in_plan-requires-2 : goal.first_in_plan-requires-2
first_in_plan-requires-2 g c = (search rules, (c.requires.size, c.requires.few))

pub returns-in-Some-clause-same : goal.returns-in-Some-clause-same
returns-in-Some-clause-same g c = c.in_ok-read_sector.ensures.same

pub returns-in-Some-clause-blames : goal.returns-in-Some-clause-blames
returns-in-Some-clause-blames g c = c.in_ok-read_sector.ensures.blames

pub returns-in-Some-clause-found : goal.returns-in-Some-clause-found
returns-in-Some-clause-found g c =
    λ tells. first_number (phases_of c.args.plan.now) Changes _ _ c.in-Some.found
    (c.boot_code.ensures ∙ ap (take 440) (c.in_ok-read_sector.ensures.bytes tells)) c.in-Some.ensures

pub returns-in-None-clause-same : goal.returns-in-None-clause-same
returns-in-None-clause-same g c = c.in_ok-read_sector.ensures.same

pub returns-in-None-clause-blames : goal.returns-in-None-clause-blames
returns-in-None-clause-blames g c = c.in_ok-read_sector.ensures.blames

pub returns-in-None-clause-found : goal.returns-in-None-clause-found
returns-in-None-clause-found g c = λ tells.
    subst (λ (kept : List ℕ). NoneIs (Changes kept) (writes_in (phases_of c.args.plan.now)))
    (c.boot_code.ensures ∙ ap (take 440) (c.in_ok-read_sector.ensures.bytes tells)) c.in-None.ensures

found_some : {X : Type 0} (o : Option X) → is_some o ≡ true → ¬ (o ≡ None)
found_some None so none = absurd (let no : false ≡ true = so in cc)
found_some (Some x) so none = absurd cc

pub returns-in_err-read_sector-clause-place : goal.returns-in_err-read_sector-clause-place
returns-in_err-read_sector-clause-place g c =
    let p = err_from_is_err_and c.from_residual.result c.from_residual.ensures.1 in
    rw (p.1, p.2) (
      ap (λ (l : Lba). l.0) c.in_err-read_sector.ensures.fault,
      head_written (phases_of c.args.plan.now) c.first_in_plan.result
          (found_some c.first_in_plan.result c.if-is_none.ensures) c.first_in_plan.ensures,
    )
