-- Lemmas on calls that only read, by the ghosts of a disk.
use Rattle.std.specs.Prelude.{◌≡◌, ℕ, List, [], ◌∷◌, ◌++◌, Option, Some, None, Result, IfErr}
use Rattle.std.proofs.Common.{◌∙◌, sym, ap, subst, Ok, Err}
use Rattle.std.proofs.lemmas.List.{append-nil, append_cancel_left}
use Rattle.pt_sector.specs.Device.{Blames, IsReadIn, with_fault}
use Rattle.pt_sector.specs.declared.disk.Fault.{Fault}
use Rattle.pt_sector.specs.declared.disk.Disk.{Ghosts}
use Rattle.pt_sector.specs.declared.reading.Failure.{Failure}
use Rattle.pt_sector.specs.declared.reading.Failure.TheVariants as failure
use Rattle.pt_sector.specs.Overlays.{ReadsThrough, FailedIn, FailOutside, CameOutside}
use Rattle.pt_sector.specs.Sectors.{Has, Writes}

-- so what a result blames above, it blames below
pub blames_below : {D B : _} (g : Ghosts D B) {T E : Type 0} (fault_in : E → Option Fault) (result : Result T E) (old new : D)
    (above now_above : List Fault)
    → ReadsThrough g old new above now_above → Blames fault_in result above now_above → Blames fault_in result (g.faults old) (g.faults new)
blames_below g fault_in (Ok x) old new above now_above through same =
    let empty : through.more ≡ [] = append_cancel_left above through.more [] (sym through.come_above ∙ same ∙ sym (append-nil above)) in
    through.come_below ∙ ap (λ (l : List Fault). g.faults old ++ l) empty ∙ append-nil (g.faults old)
blames_below g fault_in (Err e) old new above now_above through blames = by_case (fault_in e) blames
  where
    by_case : (o : Option Fault) → now_above ≡ with_fault above o → g.faults new ≡ with_fault (g.faults old) o
    by_case None same =
        let empty : through.more ≡ [] = append_cancel_left above through.more [] (sym through.come_above ∙ same ∙ sym (append-nil above)) in
        through.come_below ∙ ap (λ (l : List Fault). g.faults old ++ l) empty ∙ append-nil (g.faults old)
    by_case (Some f) one =
        let is : through.more ≡ f ∷ [] = append_cancel_left above through.more (f ∷ []) (sym through.come_above ∙ one) in
        through.come_below ∙ ap (λ (l : List Fault). g.faults old ++ l) is

pub failed_more : (S T : ℕ → Type 0) (f : Failure) → ((s : ℕ) → S s → T s) → FailedIn S f → FailedIn T f
failed_more S T (failure.Device at) more is = more at.0 is
failed_more S T failure.Memory more is = is

-- the fault that an error carries, if it does, is of a read of none of these sectors
abbrev pub IsOutside : Writes → Option Fault → Type 0
IsOutside own None = Unit {0}
IsOutside own (Some f) = IsReadIn (λ s. ¬ Has own s) f

-- so is one that came to an overlay, of its own sectors
pub failed_outside : {T E : Type 0} (fault_in : E → Option Fault) (result : Result T E) (own : Writes) (old new : List Fault)
    → CameOutside own old new → Blames fault_in result old new → IfErr result (λ e. IsOutside own (fault_in e))
failed_outside fault_in (Ok x) own old new came blames = tt
failed_outside fault_in (Err e) own old new came blames = by_case (fault_in e) blames
  where
    by_case : (o : Option Fault) → new ≡ with_fault old o → IsOutside own o
    by_case None same = tt
    by_case (Some f) one =
        let is : came.more ≡ f ∷ [] = append_cancel_left old came.more (f ∷ []) (sym came.come ∙ one) in
        (subst (FailOutside own) is came.outside).0
