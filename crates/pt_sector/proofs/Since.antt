-- Lemmas on specs/Device.antt: several calls: what a crash in them may leave.
use Rattle.std.specs.Prelude.{◌≡◌, ◌⊎◌, List, [], ◌∷◌, ◌++◌}
use Rattle.std.proofs.Common.{inl, inr, ⊎_elim, refl, ◌∙◌, sym, ap}
use Rattle.pt_sector.specs.Sectors.{Sectors}
use Rattle.pt_sector.specs.Device.{Told, Moment, MayLeave, LeftBy, Elapses, now_of, LeavesOnly}

left_split : (a b : List Moment) (c : Sectors) → LeftBy (a ++ b) c → LeftBy a c ⊎ LeftBy b c
left_split [] b c left = inr left
left_split (m ∷ a) b c (inl here) = inl (inl here)
left_split (m ∷ a) b c (inr there) = ⊎_elim (λ x. inl (inr x)) (λ y. inr y) (left_split a b c there)

append-none : (a : List Moment) → a ++ [] ≡ a
append-none [] = refl
append-none (m ∷ a) = ap (λ (l : List Moment). m ∷ l) (append-none a)

append-two : (a b c : List Moment) → (a ++ b) ++ c ≡ a ++ (b ++ c)
append-two [] b c = refl
append-two (m ∷ a) b c = ap (λ (l : List Moment). m ∷ l) (append-two a b c)

pub leaves_none : (old : Told) (P : Sectors → Type 0) → LeavesOnly old old P
leaves_none old P = record { more = []; past = sym (append-none old.past); inside = λ c none. absurd none; at_end = λ c may. inl may }

pub leaves_once : (old new : Told) (P : Sectors → Type 0) → Elapses old new
    → ((c : Sectors) → MayLeave new c → MayLeave old c ⊎ P c) → LeavesOnly old new P
leaves_once old new P time here =
    record { more = now_of old ∷ []; past = time; inside = λ c left. ⊎_elim (λ is. inl is) (λ none. absurd none) left; at_end = here }

pub leaves_through : (old mid new : Told) (P : Sectors → Type 0) → LeavesOnly old mid P → LeavesOnly mid new P → LeavesOnly old new P
leaves_through old mid new P a b = record {
  more = a.more ++ b.more;
  past = b.past ∙ ap (λ (l : List Moment). l ++ b.more) a.past ∙ append-two old.past a.more b.more;
  inside = λ c left. ⊎_elim (a.inside c) (λ later. ⊎_elim (a.at_end c) (λ p. inr p) (b.inside c later)) (left_split a.more b.more c left);
  at_end = λ c may. ⊎_elim (a.at_end c) (λ p. inr p) (b.at_end c may);
}

pub leaves_weaker : (old new : Told) (P Q : Sectors → Type 0) → ((c : Sectors) → P c → Q c) → LeavesOnly old new P → LeavesOnly old new Q
leaves_weaker old new P Q weaker run = record {
  more = run.more;
  past = run.past;
  inside = λ c left. ⊎_elim (λ before. inl before) (λ p. inr (weaker c p)) (run.inside c left);
  at_end = λ c may. ⊎_elim (λ before. inl before) (λ p. inr (weaker c p)) (run.at_end c may);
}
