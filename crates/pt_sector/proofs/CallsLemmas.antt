-- Lemmas on what a call tells of its failure, and what a call that only reads leaves.
use Rattle.std.specs.Prelude.{◌≡◌, ℕ, List, [], ◌∷◌, ◌++◌, Option, None, Result, IfErr}
use Rattle.std.proofs.Common.{subst, Ok, Err}
use Rattle.pt_sector.specs.Device.{Blames, IsReadIn, ReadFaults}
use Rattle.pt_sector.specs.declared.address.Lba.{Lba}
use Rattle.pt_sector.specs.declared.disk.Fault.{Fault}
use Rattle.pt_sector.specs.declared.disk.Fault.TheVariants.{Read, Write, Flush}

pub read_in_more : (S T : ℕ → Type 0) (f : Fault) → ((s : ℕ) → S s → T s) → IsReadIn S f → IsReadIn T f
read_in_more S T (Read at) more is = more at.0 is
read_in_more S T (Write at) more is = is
read_in_more S T Flush more is = is

pub one_fault : (old new : List Fault) (f : Fault) (at : Lba) → f ≡ Read at → new ≡ old ++ f ∷ [] → ReadFaults old new
unfolding ReadFaults
one_fault old new f at is one = (f ∷ [], one, rw is (tt, tt))

-- after calls that met no fault
pub blames_after : {T E : Type 0} (fault_in : E → Option Fault) (result : Result T E) (old mid new : List Fault) → mid ≡ old
    → Blames fault_in result mid new → Blames fault_in result old new
blames_after fault_in result old mid new same blames = subst (λ (l : List Fault). Blames fault_in result l new) same blames

-- a result that carries no fault
pub blames_none : {T E : Type 0} (fault_in : E → Option Fault) (result : Result T E) (old new : List Fault)
    → IfErr result (λ e. fault_in e ≡ None) → new ≡ old → Blames fault_in result old new
blames_none fault_in (Ok x) old new none same = same
blames_none fault_in (Err e) old new none same = rw none same
