-- The lowest table in a member, past the member's own label place.
use Rattle.std.proofs.Common.{◌≡◌, ◌+◌, ◌≢◌, ℕ, Option, Some, None, refl, sym, ap, subst, arith, ⊎_elim}
use Rattle.std.proofs.lemmas.Bool.{cases_lt}
use Rattle.pt_path.specs.declared.path.Path.{Path}
use Rattle.pt_path.specs.Paths.{rank}
use Rattle.pt_members.specs.declared.layout.Layout.{Layout}
use Rattle.pt_members.specs.declared.member.Kind.TheVariants.{Extended}
use Rattle.pt_members.specs.declared.member.Member.{Member}
use Rattle.pt_members.specs.Members.{Exists, Group}
use Rattle.pt_members.specs.Tables.{NextSectorIs}
use Rattle.pt_layout.specs.declared.sound.faults.Fault.{Fault}
use Rattle.pt_layout.specs.declared.sound.faults.Fault.TheVariants.{Buried}
use Rattle.pt_layout.specs.inner.Sound.{TableWithin, BuriedIn, HasFault, LeastIs, SpotIsBefore, spot}
use Rattle.pt_layout.specs.Sound.{IsOwnPlace}

-- what is buried in a member whose lowest table is its own place lies past that
past_own : (b : ℕ) (o : Layout) (m : Member) (t u : ℕ) → NextSectorIs (TableWithin b o m.first m.last) 0 (Some t) → IsOwnPlace o m t
    → BuriedIn b o m u → TableWithin b o (m.first + 2) m.last u
past_own b o m t u lowest own buried = (
  ⊎_elim
      (λ less. absurd (lowest.2 u (omega arith) less (buried.1.0, buried.1.1, buried.2)))
      (λ most. ⊎_elim (λ past. omega (arith, past, own.1))
      (λ here. (let same : t ≡ u = omega (arith, most, here) in absurd (buried.3 (subst (λ (v : ℕ). IsOwnPlace o m v) same own))))
      (cases_lt t u))
      (cases_lt u t),
  buried.1.1,
  buried.2,
)

pub own_then : (b : ℕ) (o : Layout) (m : Member) (t : ℕ) (r : Option ℕ) → m.kind ≢ Extended
    → NextSectorIs (TableWithin b o m.first m.last) 0 (Some t) → IsOwnPlace o m t
    → NextSectorIs (TableWithin b o (m.first + 2) m.last) 0 r → NextSectorIs (BuriedIn b o m) 0 r
own_then b o m t None kind lowest own is = λ u low buried. is u low (past_own b o m t u lowest own buried)
own_then b o m t (Some v) kind lowest own is = (
  (kind, (omega (arith, is.0.0), is.0.1), is.0.2, λ again. absurd (omega (arith, again.1, is.0.0))),
  is.1,
  λ u low less buried. is.2 u low less (past_own b o m t u lowest own buried),
)

-- a table that is the lowest in a member is its first fault
pub buried_least : (b : ℕ) (o : Layout) (fault : Fault) (g : Group) (m : Member) (lba : ℕ) → fault ≡ Buried → Exists m
    → NextSectorIs (BuriedIn b o m) 0 (Some lba) → LeastIs (HasFault b o fault g m) (Some (spot m.path lba))
buried_least b o fault g m lba is exists lowest =
    subst (λ (f : Fault). LeastIs (HasFault b o f g m) (Some (spot m.path lba))) (sym is) ((refl, exists, lowest.0), first) where
      first : (q : Path) (t : ℕ) → HasFault b o Buried g m q t → ¬ SpotIsBefore (spot q t) (spot m.path lba)
      first q t has before =
          let same : rank m.path ≡ rank q = ap rank has.0 in
          ⊎_elim (λ less. absurd (omega (arith, less, same))) (λ tie. lowest.2 t (omega arith) tie.1 has.2) before
