-- What is read of a side, and of both.
use Rattle.std.proofs.Common.{◌≡◌, ℕ, List, length, sym, ap, ◌∙◌, inl, inr}
use Rattle.std.specs.Prelude.{◌⊎◌}
use Rattle.pt_sector.specs.Sectors.{Sectors}
use Rattle.pt_gpt.specs.Copies.{IsOutsideCopy, TellsHeadFault, TellsFault, header_place, IsHead, InArray, Copy, HasCopy, IsCopyFault}
use Rattle.pt_gpt.specs.Copies.{SideReads}
use Rattle.pt_gpt.proofs.Terms.{side_reads_head_lem, side_reads_fault_lem}
use Rattle.pt_gpt.specs.declared.header.Header.{Header}
use Rattle.pt_gpt.specs.declared.error.CopyError.{CopyError}
use Rattle.pt_gpt.specs.declared.table.Side.{Side}
use Rattle.pt_gpt.specs.declared.table.Side.TheVariants.{Primary, Backup}
use Rattle.pt_gpt.specs.declared.table.Table.{Table}
use Rattle.pt_recover.specs.Denotes.{TableReads}
use Rattle.pt_recover.specs.Spans.{Adds}
use Rattle.pt_recover.specs.declared.trace.TracedRun.{TracedRun}
use Rattle.pt_recover.proofs.Traces.{adds_same, adds_both}

pub head_read : (b : ℕ) (d : Sectors) (side : Side) (e : CopyError) (at n : ℕ) (old new : List TracedRun) → at ≡ header_place side n
    → n ≡ length d → Adds old new (λ s. s ≡ at) → TellsHeadFault b d side e
    → IsOutsideCopy e ⊎ Adds old new (SideReads b d side)
head_read b d side e at n old new here count adds (inl out) = inl out
head_read b d side e at n old new here count adds (inr fault) =
    let place : at ≡ header_place side (length d) = here ∙ ap (header_place side) count in
    inr (adds_same old new (λ s. s ≡ at) (SideReads b d side) adds (λ s.
    let are = side_reads_fault_lem b d side e fault s in
    (λ r. are.0 r ∙ sym place, λ is. are.1 (is ∙ place))))

pub array_read : (b : ℕ) (d : Sectors) (side : Side) (h : Header) (at n : ℕ) (old mid new : List TracedRun) → at ≡ header_place side n
    → n ≡ length d → Adds old mid (λ s. s ≡ at) → Adds mid new (InArray b h) → IsHead b d side h
    → Adds old new (SideReads b d side)
array_read b d side h at n old mid new here count first second head =
    let place : at ≡ header_place side (length d) = here ∙ ap (header_place side) count in
    adds_both old mid new (λ s. s ≡ at) (InArray b h) (SideReads b d side) first second (λ s.
    let are = side_reads_head_lem b d side h head s in (
      λ r. elim (are.0 r) [ inl is ↦ inl (is ∙ sym place) | inr within ↦ inr within ],
      λ r. elim r [ inl is ↦ are.1 (inl (is ∙ place)) | inr within ↦ are.1 (inr within) ],
    ))

pub primary_read : (b : ℕ) (d : Sectors) (t : Table) (old new : List TracedRun) → Copy b d Primary t
    → Adds old new (SideReads b d Primary) → Adds old new (TableReads b d)
primary_read b d t old new copy adds =
    adds_same old new (SideReads b d Primary) (TableReads b d) adds
    (λ s. (λ r. elim r [ inl here ↦ here | inr there ↦ absurd (there.0 (t, copy)) ], λ r. inl r))

pub inside_fault : (b : ℕ) (d : Sectors) (side : Side) (e : CopyError) → TellsFault b d side e → ¬ IsOutsideCopy e → IsCopyFault b d side e
inside_fault b d side e (inl out) inside = absurd (inside out)
inside_fault b d side e (inr fault) inside = fault

pub inside_adds : {P Q : Type 0} → P ⊎ Q → ¬ P → Q
inside_adds (inl p) none = absurd (none p)
inside_adds (inr q) none = q

pub both_read : (b : ℕ) (d : Sectors) (old mid new : List TracedRun) → ¬ HasCopy b d Primary → Adds old mid (SideReads b d Primary)
    → Adds mid new (SideReads b d Backup) → Adds old new (TableReads b d)
both_read b d old mid new none first second =
    adds_both old mid new (SideReads b d Primary) (SideReads b d Backup) (TableReads b d) first second (λ s.
    (λ r. elim r [ inl here ↦ inl here | inr there ↦ inr there.1 ], λ r. elim r [ inl here ↦ inl here | inr there ↦ inr (none, there) ]))
