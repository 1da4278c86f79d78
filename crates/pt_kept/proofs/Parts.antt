-- What edits of a label keep.
use Rattle.std.specs.Prelude.{◌≡◌, ◌<◌, ℕ, Bool, true, false, List, length, slice_index_or, Option, Some, None, nat_eq}
use Rattle.std.proofs.Common.{refl, sym, subst, ◌∙◌, inl, inr}
use Rattle.std.proofs.lemmas.Bool.{cases_lt, eqb-true, eqb-false}
use Rattle.std.proofs.lemmas.List.{get_or_past}
use Rattle.pt_bsd.specs.declared.label.Label.{Label}
use Rattle.pt_bsd.specs.declared.label.LabelEntry.{LabelEntry}
use Rattle.pt_members.specs.Members.{slices_of, label_of}
use Rattle.pt_members.specs.declared.layout.Layout.{Layout}
use Rattle.pt_edit.specs.SliceLabels.{with_label, with_part, with_entry_of}
use Rattle.pt_cases.specs.Writes.{Shaped}
use Rattle.pt_cases.specs.Keeps.{LabelStays, Keeps}
use Rattle.pt_cases.proofs.Terms.{label_stays_refl_lem}
use Rattle.pt_cases.proofs.Ascending.{slices_ascend_lem}
use Rattle.pt_kept.proofs.Order.{are_with, label_of_with, label_of_changed, part_fits, same_but_part}
use Rattle.pt_edit.proofs.LabelSteps.{HasPartEntry, PartMade}

-- an entry that stands in a list stands inside it
pub there : (es : List (Option LabelEntry)) (k : ℕ) (e : LabelEntry) → slice_index_or es k None ≡ Some e → k < length es
there es k e has = elim (cases_lt k (length es)) as (λ _. k < length es) [
  | inl below ↦ below
  | inr past ↦ let both : None ≡ Some e = sym (get_or_past es k None past) ∙ has in absurd cc
]

-- another entry of a letter in a slice's label
pub keeps_entry_of : (b number letter : ℕ) (o : Layout) (l : Label) (old new : LabelEntry) → Shaped b o
    → HasPartEntry o number letter l old → Keeps b o.sectors (Some o) (with_entry_of number l letter new o)
keeps_entry_of b number letter o l old new shaped has = record {
  sectors = refl;
  shaped = record {
    body = shaped.body;
    labels = are_with number 1 l changed (slices_of b o.body) o.labels
        (λ s fits. part_fits l letter old new s has.other has.counted within fits) (slices_ascend_lem b o shaped) has.label shaped.labels;
  };
  mbr = λ is. is;
  labels = λ s stands. inl (s, record { stands = stands; first = refl; len = refl }, stays s.number (nat_eq s.number number) refl);
  records = λ k r is. inl (r, is, refl);
  logicals = λ e r is logical. inl (record { was = e; stands = is; place = refl; old = r; logical = logical; typed = refl });
} where
  changed : Label
  changed = with_part l letter new

  within : letter < length l.entries
  within = there l.entries letter old has.counted

  stays : (k : ℕ) (t : Bool) → nat_eq k number ≡ t → LabelStays (label_of o.labels k) (label_of (with_label number changed o.labels) k)
  stays k true so =
      let same : number ≡ k = sym (eqb-true k number so) in
      subst (λ (i : ℕ). LabelStays (label_of o.labels i) (label_of (with_label number changed o.labels) i)) same
      (subst (λ (x : Option Label). LabelStays x (label_of (with_label number changed o.labels) number)) (sym has.label)
      (subst (LabelStays (Some l)) (sym (label_of_changed number l changed o.labels has.label))
      (same_but_part l letter old new has.other has.counted within)))
  stays k false so =
      subst (LabelStays (label_of o.labels k)) (sym (label_of_with number k changed o.labels (eqb-false k number so)))
      (label_stays_refl_lem (label_of o.labels k))

-- a partition of a label that becomes another, or none
pub keeps_part : (b number letter : ℕ) (o p : Layout) → Shaped b o → PartMade number letter o p → Keeps b o.sectors (Some o) p
keeps_part b number letter o p shaped made =
    subst (λ (q : Layout). Keeps b o.sectors (Some o) q) (sym made.made)
    (keeps_entry_of b number letter o made.label made.old made.new shaped made.entry)
