-- What is read of a disk.
use Rattle.std.proofs.Common.{◌≡◌, ◌<◌, ℕ, List, length, get_or, filter, All, Some, None, true, sym, ap, ◌∙◌, subst, arith, inl, inr}
use Rattle.std.specs.Prelude.{◌⊎◌}
use Rattle.std.proofs.lemmas.List.Elements.{filter_passes}
use Rattle.pt_sector.specs.Sectors.{Sectors}
use Rattle.pt_members.specs.Members.{places_of, slices_of, has_place, place_of, IsPlace}
use Rattle.pt_recover.specs.Denotes.{LabelsAre, BodyIs, BodyReads, Denotes, Reads, body, label, TellsNothing, IsOutsideDisk, IsTraceOf}
use Rattle.pt_recover.proofs.One.{body_one}
use Rattle.pt_recover.specs.Spans.{IsIn, Adds}
use Rattle.pt_recover.specs.declared.error.NoTable.{NoTable}
use Rattle.pt_members.specs.declared.layout.Body.{Body}
use Rattle.pt_members.specs.declared.layout.Labelled.{Labelled}
use Rattle.pt_members.specs.declared.layout.Slice.{Slice}
use Rattle.pt_recover.specs.declared.trace.TracedRun.{TracedRun}
use Rattle.pt_recover.proofs.Traces.{adds_same, adds_both}

on_disk : (n : ℕ) (s : Slice) → has_place n s ≡ true → place_of s < n
on_disk n s has = grind arith

-- each label place is on the disk
pub places_within : (b n m : ℕ) (y : Body) (ps : List Slice) → ps ≡ places_of b n y → n ≡ m → All (λ p. place_of p < m) ps
unfolding places_of
places_within b n m y ps are same =
    subst (λ (l : List Slice). All (λ p. place_of p < m) l) (sym are)
    (subst (λ (x : ℕ). All (λ p. place_of p < x) (filter (has_place n) (slices_of b y))) same
    (λ k d lt. on_disk n (get_or (filter (has_place n) (slices_of b y)) k d) (filter_passes (has_place n) (slices_of b y) k d lt)))

reads_there : (b : ℕ) (d : Sectors) (y : Body) (s : ℕ) → BodyIs b d y → Reads b d s → BodyReads b d s ⊎ IsPlace (places_of b (length d) y) s
reads_there b d y s is (body reads) = inl reads
reads_there b d y s is (label x other at) = inr (subst (λ (z : Body). IsPlace (places_of b (length d) z) s) (body_one b d x y other is) at)

reads_back : (b : ℕ) (d : Sectors) (y : Body) (s : ℕ) → BodyIs b d y → BodyReads b d s ⊎ IsPlace (places_of b (length d) y) s → Reads b d s
reads_back b d y s is (inl reads) = body reads
reads_back b d y s is (inr at) = label y is at

pub all_read : (b n : ℕ) (d : Sectors) (y : Body) (ps : List Slice) (old mid new : List TracedRun) → BodyIs b d y → ps ≡ places_of b n y
    → n ≡ length d → Adds old mid (BodyReads b d) → Adds mid new (IsPlace ps) → Adds old new (Reads b d)
all_read b n d y ps old mid new is are count first second =
    let places : ps ≡ places_of b (length d) y = are ∙ ap (λ (k : ℕ). places_of b k y) count in
    adds_both old mid new (BodyReads b d) (IsPlace (places_of b (length d) y)) (Reads b d) first
    (subst (λ (l : List Slice). Adds mid new (IsPlace l)) places second) (λ s. (reads_there b d y s is, reads_back b d y s is))

none_there : (b : ℕ) (d : Sectors) (s : ℕ) → Denotes b d None → Reads b d s → BodyReads b d s
none_there b d s none (body reads) = reads
none_there b d s none (label y is at) = absurd (none y is)

pub none_read : (b : ℕ) (d : Sectors) (e : NoTable) (old new : List TracedRun) → TellsNothing b d e
    → IsOutsideDisk e ⊎ Adds old new (BodyReads b d) → IsOutsideDisk e ⊎ Adds old new (Reads b d)
none_read b d e old new told (inl out) = inl out
none_read b d e old new (inl out) (inr adds) = inl out
none_read b d e old new (inr told) (inr adds) =
    inr (adds_same old new (BodyReads b d) (Reads b d) adds (λ s. (none_there b d s told.0, λ reads. body reads)))

pub layout_is : (b n : ℕ) (d : Sectors) (y : Body) (ps : List Slice) (ls : List Labelled) → BodyIs b d y → ps ≡ places_of b n y
    → n ≡ length d → LabelsAre d ps ls → Denotes b d (Some (record { sectors = n; body = y; labels = ls }))
layout_is b n d y ps ls is are count labels =
    (count, is, subst (λ (l : List Slice). LabelsAre d l ls) (are ∙ ap (λ (k : ℕ). places_of b k y) count) labels)

pub trace_is : (b : ℕ) (d : Sectors) (old new : List TracedRun) → ((s : ℕ) → ¬ IsIn old s) → Adds old new (Reads b d) → IsTraceOf b d new
trace_is b d old new none adds s = (λ i. elim ((adds s).0 i) [ inl was ↦ absurd (none s was) | inr read ↦ read ], λ r. (adds s).1 (inr r))

pub trace_or : (P : Type 0) (b : ℕ) (d : Sectors) (old new : List TracedRun) → ((s : ℕ) → ¬ IsIn old s) → P ⊎ Adds old new (Reads b d)
    → P ⊎ IsTraceOf b d new
trace_or P b d old new none (inl out) = inl out
trace_or P b d old new none (inr adds) = inr (trace_is b d old new none adds)
