-- Lemmas on specs/Keeps.antt: the labels of a layout at their places, on a disk that denotes it.
use Rattle.std.specs.Prelude.{◌≡◌, ◌↔◌, ◌∷◌, [], ℕ, List, Contains, Option, Some, None}
use Rattle.std.proofs.Common.{refl, sym, subst, ◌∙◌, arith, inl, inr}
use Rattle.pt_sector.specs.Sectors.{Sectors}
use Rattle.pt_bsd.specs.Labels.{LabelBytes, entry_of, IsRaw, FitsSlice}
use Rattle.pt_bsd.specs.declared.label.Label.{Label}
use Rattle.pt_bsd.specs.declared.label.LabelEntry.{LabelEntry}
use Rattle.pt_members.specs.Members.{places_of, label_of}
use Rattle.pt_recover.specs.Denotes.{SliceHasLabel, LabelsAre, BodyIs, Denotes}
use Rattle.pt_members.specs.declared.layout.Slice.{Slice}
use Rattle.pt_members.specs.declared.layout.Labelled.{Labelled}
use Rattle.pt_members.specs.declared.layout.Layout.{Layout}
use Rattle.pt_members.specs.declared.layout.Body.{Body}
use Rattle.pt_members.specs.declared.layout.Body.TheVariants.{Mbr, Gpt}
use Rattle.pt_members.specs.Tables.{HasFour}
use Rattle.pt_cases.proofs.Ascending.{places_ascend_lem}
use Rattle.pt_cases.proofs.Denoted.{raw_is}
use Rattle.pt_cases.specs.Writes.{Along}
use Rattle.pt_cases.proofs.Along.{along_at}
use Rattle.pt_cases.specs.Keeps.{StandsOn}

-- labels at their places are labels side by side with them
pub along_labels_are : (d : Sectors) (ws : List Slice) (labels : List Labelled) → LabelsAre d ws labels → Along (StandsOn d) ws labels
along_labels_are d [] labels are = are
along_labels_are d (w ∷ ws) labels (inl (l, rest, same, stands, later)) = inl (l, rest, same, stands, along_labels_are d ws rest later)
along_labels_are d (w ∷ ws) labels (inr (none, later)) = inr (none, along_labels_are d ws labels later)

pub denoted_four : (b : ℕ) (d : Sectors) (y : Body) → BodyIs b d y → HasFour y
denoted_four b d (Mbr rs chain) is = is.0.1.four
denoted_four b d (Gpt t) is = tt

-- on a disk that denotes a layout a label place has the label of its slice's number
pub label_at_place_lem : (b : ℕ) (d : Sectors) (o : Layout) (w : Slice) → Denotes b d (Some o)
    → Contains (places_of b o.sectors o.body) w → StandsOn d w (label_of o.labels w.number)
label_at_place_lem b d o w denotes has =
    let are : LabelsAre d (places_of b o.sectors o.body) o.labels =
    subst (λ (n : ℕ). LabelsAre d (places_of b n o.body) o.labels) (sym denotes.0) denotes.2 in
    let up = places_ascend_lem b o.sectors o.body (denoted_four b d o.body denotes.1) in
    along_at (StandsOn d) 1 (places_of b o.sectors o.body) o.labels w up
    (along_labels_are d (places_of b o.sectors o.body) o.labels are) has

none_or_some : (d : Sectors) (w : Slice) (l : Option Label) → StandsOn d w l → (l ≡ None) ↔ (¬ SliceHasLabel d w)
none_or_some d w None stands = (λ e. stands, λ none. refl)
none_or_some d w (Some l) stands = (λ e. absurd cc, λ none. absurd (none (l, stands)))

-- so the number has no label exactly where the place has none
pub no_label_there_lem : (b : ℕ) (d : Sectors) (o : Layout) (w : Slice) → Denotes b d (Some o)
    → Contains (places_of b o.sectors o.body) w → (label_of o.labels w.number ≡ None) ↔ (¬ SliceHasLabel d w)
no_label_there_lem b d o w denotes has = none_or_some d w (label_of o.labels w.number) (label_at_place_lem b d o w denotes has)

one_length : (o : Option LabelEntry) (first m n : ℕ) → IsRaw o first m → IsRaw o first n → m ≡ n
one_length None first m n is also = absurd is
one_length (Some e) first m n is also = sym is.0 ∙ also.0

-- a label of a slice is read in each slice from its first sector that it fits: that is as long
pub label_stays_lem : (l : Label) (first m n : ℕ) (bytes : List ℕ) → LabelBytes l first m bytes → FitsSlice l first n
    → LabelBytes l first n bytes
label_stays_lem l first m n bytes is fits =
    let raw : IsRaw (entry_of l 2) first m = raw_is (entry_of l 2) first m bytes (is.entries.each 2 (omega arith)) is.count.least is.raw in
    subst (λ (k : ℕ). LabelBytes l first k bytes) (one_length (entry_of l 2) first m n raw fits) is
