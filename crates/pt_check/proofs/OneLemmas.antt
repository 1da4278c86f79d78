-- Lemmas on one answer at most is right.
use Rattle.std.proofs.Common.{◌≡◌, ◌∙◌, inl, inr, ⊎_elim, ℕ, ◌+◌, List, slice_get, refl, sym, ap, subst, arith, Option, Some}
use Rattle.std.proofs.lemmas.Bool.{cases_order}
use Rattle.pt_sector.specs.Sectors.{Sectors, Writes, after}
use Rattle.pt_sector.specs.declared.address.Lba.{Lba}
use Rattle.pt_layout.specs.declared.sound.finding.Finding.{Finding}
use Rattle.pt_check.specs.Answers.{phase_at, disk_after, IsFirst, stage, turn, FirstWrite, FirstSector, IsPastLast, ChangesBoot}
use Rattle.pt_check.specs.Answers.{ReadsSector, Leads, IsStray, IsOwned, IsSwitch, Holds, IsAnswer, SameReason, SameAnswer}
use Rattle.pt_apply.specs.Plans.{writes_in}
use Rattle.pt_check.specs.declared.answer.Answer.{Answer}
use Rattle.pt_check.specs.declared.answer.Answer.TheVariants.{No, Yes}
use Rattle.pt_check.specs.declared.answer.Why.{Why}
use Rattle.pt_check.specs.declared.answer.Why.TheVariants.{TooManyWrites, OutOfRange, BootCode, ReadSector, Neither, NotATable, Owned}
use Rattle.pt_check.specs.declared.answer.Why.TheVariants.{Final}

some_one : {X : Type 0} (x y : X) → Some x ≡ Some y → x ≡ y
some_one x y same = cc

first_one : {X : Type 0} (P : X → Type 0) (xs : List X) (k j : ℕ) (x y : X) → IsFirst P xs k x → IsFirst P xs j y → (k ≡ j) × (x ≡ y)
first_one P xs k j x y a b = ⊎_elim
    (λ same. (same, some_one x y (sym a.at ∙ ap (λ (n : ℕ). slice_get xs n) same ∙ b.at)))
    (λ other. ⊎_elim (λ less. absurd (b.none_before k x less a.at a.is)) (λ more. absurd (a.none_before j y more b.at b.is)) other)
    (cases_order k j)

number_one : (phases : List Writes) (P : ℕ × List ℕ → Type 0) (n m : ℕ) → FirstWrite phases P n → FirstWrite phases P m → n ≡ m
number_one phases P n m a b =
    a.is ∙ ap (λ (k : ℕ). k + 1) (first_one P (writes_in phases) a.at b.at a.write b.write a.first b.first).0 ∙ sym b.is

lba_one : (l m : Lba) → l.0 ≡ m.0 → l ≡ m
lba_one l m same = ap (λ (n : ℕ). let x : Lba = record { 0 = n } in x) same

sector_one : (phases : List Writes) (P : ℕ × List ℕ → Type 0) (l m : ℕ) → FirstSector phases P l → FirstSector phases P m → l ≡ m
sector_one phases P l m a b =
    a.is ∙ ap (λ (w : ℕ × List ℕ). w.0) (first_one P (writes_in phases) a.at b.at a.write b.write a.first b.first).1 ∙ sym b.is

read_one : (reads : Sectors → ℕ → Type 0) (d : Sectors) (phases : List Writes) (p q l m : ℕ) → p ≡ q → ReadsSector reads d phases p l
    → ReadsSector reads d phases q m → l ≡ m
read_one reads d phases p q l m same a b =
    let phase : b.i ≡ a.i = omega (arith, same, a.number, b.number) in
    a.is ∙ ap (λ (w : ℕ × List ℕ). w.0)
    (first_one (λ (w : ℕ × List ℕ). reads (disk_after phases d a.i) w.0) (phase_at phases a.i) a.at b.at a.write b.write a.first
    (subst (λ (i : ℕ). IsFirst (λ (w : ℕ × List ℕ). reads (disk_after phases d i) w.0) (phase_at phases i) b.at b.write) phase b.first)).1
    ∙ sym b.is

module _ {L : Type 0} (denotes : Sectors → Option L → Type 0) (reads : Sectors → ℕ → Type 0) (table owned : Option L → ℕ → Type 0)
    (finds : Sectors → Finding → Type 0) (one : (x : Sectors) (o p : Option L) → denotes x o → denotes x p → o ≡ p) (d : Sectors)
    (phases : List Writes) where
  along : (P : Option L → Option L → Type 0) (o n p m : Option L) → Leads denotes d phases o n → Leads denotes d phases p m → P p m → P o n
  along P o n p m a b it =
      subst (λ (x : Option L). P x n) (one d p o b.from a.from) (subst (λ (y : Option L). P p y) (one (after phases d) m n b.to a.to) it)

  same_kind : (v w : Why) → stage v ≡ stage w → turn v ≡ turn w → Holds denotes reads table owned finds d phases v
      → Holds denotes reads table owned finds d phases w → SameReason finds (after phases d) v w
  same_kind TooManyWrites TooManyWrites s t a b = inl refl
  same_kind (OutOfRange n) (OutOfRange m) s t a b = inl (ap (λ (k : ℕ). OutOfRange k) (number_one phases (IsPastLast d) n m a b))
  same_kind (BootCode n) (BootCode m) s t a b = inl (ap (λ (k : ℕ). BootCode k) (number_one phases (ChangesBoot d) n m a b))
  same_kind (ReadSector p l) (ReadSector q m) s t a b =
      let same : p ≡ q = omega (arith, t) in
      inl (ap (λ (k : ℕ). ReadSector k l) same
      ∙ ap (λ (x : Lba). ReadSector q x) (lba_one l m (read_one reads d phases p q l.0 m.0 same a b)))
  same_kind (Neither p) (Neither q) s t a b = let same : p ≡ q = omega (arith, t) in inl (ap (λ (k : ℕ). Neither k) same)
  same_kind (NotATable l) (NotATable m) s t a b =
      inl
      (ap (λ (x : Lba). NotATable x) (lba_one l m (sector_one phases (IsStray denotes reads table owned finds d phases a.0 a.1) l.0 m.0 a.3
      (along (λ x y. FirstSector phases (IsStray denotes reads table owned finds d phases x y) m.0) a.0 a.1 b.0 b.1 a.2 b.2 b.3))))
  same_kind (Owned l) (Owned m) s t a b =
      inl (ap (λ (x : Lba). Owned x) (lba_one l m (sector_one phases (IsOwned denotes reads table owned finds d phases a.0 a.1) l.0 m.0 a.3
      (along (λ x y. FirstSector phases (IsOwned denotes reads table owned finds d phases x y) m.0) a.0 a.1 b.0 b.1 a.2 b.2 b.3))))
  same_kind (Final f) (Final g) s t a b = inr (f, g, refl, refl, a, b)
  same_kind v w s t a b = absurd (omega (arith, s, t))

  switch_one : (s t : ℕ) → IsSwitch denotes d phases s → IsSwitch denotes d phases t → s ≡ t
  switch_one s t a b =
      let old : a.old ≡ b.old = one d a.old b.old a.leads.from b.leads.from in
      let new : a.new ≡ b.new = one (after phases d) a.new b.new a.leads.to b.leads.to in
      ⊎_elim
      (λ x. ⊎_elim (λ y. x.1 ∙ sym y.1) (λ y. absurd (y.0 (sym old ∙ x.0 ∙ new))) b.first)
      (λ x. ⊎_elim
      (λ y. absurd (x.0 (old ∙ y.0 ∙ sym new)))
      (λ y. ⊎_elim
      (λ same. same)
      (λ other. ⊎_elim
      (λ less. absurd (y.4 s x.1 less (subst (denotes (disk_after phases d s)) new x.3)))
      (λ more. absurd (x.4 t y.1 more (subst (denotes (disk_after phases d t)) (sym new) y.3)))
      other)
      (cases_order s t))
      b.first)
      a.first

  pub answer_one : (a c : Answer) → IsAnswer denotes reads table owned finds d phases a
      → IsAnswer denotes reads table owned finds d phases c → SameAnswer finds (after phases d) a c
  answer_one (Yes s) (Yes t) a c = switch_one s t a.1 c.1
  answer_one (Yes s) (No w) a c = absurd (a.0 w c.0)
  answer_one (No v) (Yes t) a c = absurd (c.0 v a.0)
  answer_one (No v) (No w) a c =
      let stages : stage v ≡ stage w =
      ⊎_elim (λ same. same) (λ other. ⊎_elim (λ less. absurd (c.1 v (inl less) a.0)) (λ more. absurd (a.1 w (inl more) c.0)) other)
      (cases_order (stage v) (stage w)) in
      let turns : turn v ≡ turn w =
      ⊎_elim (λ same. same)
      (λ other. ⊎_elim (λ less. absurd (c.1 v (inr (stages, less)) a.0)) (λ more. absurd (a.1 w (inr (sym stages, more)) c.0)) other)
      (cases_order (turn v) (turn w)) in
      same_kind v w stages turns a.0 c.0
