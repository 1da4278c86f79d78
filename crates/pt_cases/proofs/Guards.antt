-- When a sector isn't guarded, and when the boot code is kept: for whoever makes a plan.
use Rattle.std.proofs.Common.{◌≡◌, ◌⊎◌, inl, ℕ, zero, suc, ◌<◌, ◌≤◌, List, [], ◌∷◌, length, take, refl, subst, arith, Option, Some, None}
use Rattle.std.specs.Prelude.{slice_index}
use Rattle.pt_sector.specs.Sectors.{Sectors}
use Rattle.pt_recover.specs.Denotes.{Denotes, Reads, body, label, IsMbrDisk}
use Rattle.pt_recover.specs.Denotes as denotes
use Rattle.pt_members.specs.Members.{places_of, IsPlace}
use Rattle.pt_recover.proofs.One.{body_one}
use Rattle.pt_members.specs.declared.layout.Body.{Body}
use Rattle.pt_members.specs.declared.layout.Layout.{Layout}
use Rattle.pt_layout.specs.Healthy.{IsGuarded, head, ebr, place}

-- what is guarded is read
pub guarded_is_read : (b : ℕ) (d : Sectors) (s : ℕ) → IsGuarded b d s → Reads b d s
guarded_is_read b d s (head mbr at) = body (denotes.head mbr.0 at)
guarded_is_read b d s (ebr m is reads) = body (denotes.chain m is reads)
guarded_is_read b d s (place y is at) = label y is at

-- on a disk that is no MBR disk, the label places of what it denotes are guarded and nothing else
pub unguarded_here : (b : ℕ) (d : Sectors) (o : Option Layout) (s : ℕ) → ¬ IsMbrDisk d → Denotes b d o
    → ((l : Layout) → o ≡ Some l → ¬ IsPlace (places_of b (length d) l.body) s) → ¬ IsGuarded b d s
unguarded_here b d o s plain from clear (head mbr at) = plain mbr
unguarded_here b d o s plain from clear (ebr m is reads) = plain is.0
unguarded_here b d None s plain from clear (place y is at) = from y is
unguarded_here b d (Some l) s plain from clear (place y is at) =
    clear l refl (subst (λ (x : Body). IsPlace (places_of b (length d) x) s) (body_one b d y l.body is from.1) at)

-- lists that agree at first begin alike
pub take_same : (k : ℕ) (x y : List ℕ) → length x ≡ length y → ((i : ℕ) → i < k → slice_index x i ≡ slice_index y i) → take k x ≡ take k y
take_same zero x y count each = refl
take_same (suc k) [] [] count each = refl
take_same (suc k) [] (y ∷ ys) count each = absurd (omega (arith, count))
take_same (suc k) (x ∷ xs) [] count each = absurd (omega (arith, count))
take_same (suc k) (x ∷ xs) (y ∷ ys) count each =
    let first : x ≡ y = each 0 (omega arith) in
    let rest = take_same k xs ys (omega (arith, count)) (λ i lt. each (suc i) (omega (arith, lt))) in
    λ i. first i ∷ rest i

-- so a sector 0 that keeps bytes 0 to 445 keeps the boot code
pub boot_kept : (old new : List ℕ) → length new ≡ length old → ((i : ℕ) → (i < 446) ⊎ (512 ≤ i) → slice_index new i ≡ slice_index old i)
    → take 440 new ≡ take 440 old
boot_kept old new count other = take_same 440 new old count (λ i lt. other i (inl (omega (arith, lt))))
