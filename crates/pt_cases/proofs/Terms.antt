-- Laws of what edits keep, as terms that definitions and proofs above can cite.
use Rattle.std.specs.Prelude.{◌≡◌, ◌⊎◌, ℕ, Option, Some, None}
use Rattle.std.proofs.Common.{refl, ap, subst, ◌∙◌, inl, inr}
use Rattle.pt_mbr.specs.declared.record.Record.{Record}
use Rattle.pt_mbr.specs.declared.ebr.Ebr.{Ebr}
use Rattle.pt_bsd.specs.Labels.{empty_of}
use Rattle.pt_bsd.specs.declared.label.Label.{Label}
use Rattle.pt_members.specs.declared.layout.Slice.{Slice}
use Rattle.pt_members.specs.declared.layout.Layout.{Layout}
use Rattle.pt_members.specs.Members.{label_of}
use Rattle.pt_cases.specs.Writes.{Shaped}
use Rattle.pt_cases.specs.Keeps.{SameButParts, LabelStays, IsOldLabel, IsNewLabel, IsMadeRecord, IsRetyped, IsOldRecord, IsOldLogical}
use Rattle.pt_cases.specs.Keeps.{IsMadeLogical, Keeps}

pub same_but_parts_refl : (l : Label) → SameButParts l l
same_but_parts_refl l = record { same = refl; places = refl; counted = λ k. refl; raw = refl }

pub label_stays_refl_lem : (l : Option Label) → LabelStays l l
label_stays_refl_lem None = tt
label_stays_refl_lem (Some l) = same_but_parts_refl l

-- a layout keeps itself
pub keeps_refl : (b : ℕ) (o : Layout) → Shaped b o → Keeps b o.sectors (Some o) o
keeps_refl b o shaped = record {
  sectors = refl;
  shaped = shaped;
  mbr = λ m. m;
  labels = λ s stands. inl (s, record { stands = stands; first = refl; len = refl }, label_stays_refl_lem (label_of o.labels s.number));
  records = λ k r is. inl (r, is, refl);
  logicals = λ e r is has. inl (record { was = e; stands = is; place = refl; old = r; logical = has; typed = refl });
}

pub same_but_parts_trans : (l m n : Label) → SameButParts l m → SameButParts m n → SameButParts l n
same_but_parts_trans l m n x y = record {
  same = y.same ∙ (ap (λ (k : Label). record k { entries = n.entries }) x.same);
  places = y.places ∙ x.places;
  counted = λ k. y.counted k ∙ x.counted k;
  raw = y.raw ∙ x.raw;
}

label_stays_trans : (l m n : Option Label) → LabelStays l m → LabelStays m n → LabelStays l n
label_stays_trans None None None x y = tt
label_stays_trans None None (Some n) x y = absurd y
label_stays_trans None (Some m) n x y = absurd x
label_stays_trans (Some l) None n x y = absurd x
label_stays_trans (Some l) (Some m) None x y = absurd y
label_stays_trans (Some l) (Some m) (Some n) x y = same_but_parts_trans l m n x y

-- a slice's label over two steps
label_trans : (b : ℕ) (old : Option Layout) (s was : Slice) (m l : Option Label) → was.first ≡ s.first → was.len ≡ s.len
    → IsOldLabel b old was m ⊎ IsNewLabel was m → LabelStays m l → IsOldLabel b old s l ⊎ IsNewLabel s l
label_trans b None s was m l first len (inl x) stays = absurd x
label_trans b (Some o) s was m l first len (inl (early, is, then)) stays =
    inl (
      early,
      record { stands = is.stands; first = is.first ∙ first; len = is.len ∙ len },
      label_stays_trans (label_of o.labels early.number) m l then stays,
    )
label_trans b old s was None l first len (inr x) stays = absurd x
label_trans b old s was (Some m) None first len (inr x) stays = absurd stays
label_trans b old s was (Some m) (Some l) first len (inr x) stays =
    inr (subst (λ (n : ℕ). SameButParts (empty_of n) l) len (same_but_parts_trans (empty_of was.len) m l x stays))

typed_trans : (q r s : Record) → IsRetyped q r → IsRetyped r s → IsRetyped q s
typed_trans q r s x y = y ∙ ap (λ (k : Record). record k { kind = s.kind }) x

made_typed : (r s : Record) → IsMadeRecord r → IsRetyped r s → IsMadeRecord s
made_typed r s made is = record {
  boot = ap (λ (k : Record). k.boot) is ∙ made.boot;
  start_chs = ap (λ (k : Record). k.start_chs) is ∙ made.start_chs;
  end_chs = ap (λ (k : Record). k.end_chs) is ∙ made.end_chs;
}

record_trans : (old : Option Layout) (k : ℕ) (r s : Record) → IsOldRecord old k r ⊎ IsMadeRecord r → IsRetyped r s
    → IsOldRecord old k s ⊎ IsMadeRecord s
record_trans None k r s (inl x) is = absurd x
record_trans (Some o) k r s (inl (q, was, typed)) is = inl (q, was, typed_trans q r s typed is)
record_trans old k r s (inr made) is = inr (made_typed r s made is)

logical_trans : (old : Option Layout) (e f : Ebr) (r s : Record) → e.at ≡ f.at → IsOldLogical old e r ⊎ IsMadeLogical r → IsRetyped r s
    → IsOldLogical old f s ⊎ IsMadeLogical s
logical_trans None e f r s place (inl x) is = absurd x
logical_trans (Some o) e f r s place (inl x) is =
    inl
    (record {
      was = x.was;
      stands = x.stands;
      place = x.place ∙ place;
      old = x.old;
      logical = x.logical;
      typed = typed_trans x.old r s x.typed is;
    })
logical_trans old e f r s place (inr made) is =
    inr (record { made = made_typed r s made.made is; next = ap (λ (k : Record). k.start) is ∙ made.next })

-- what two edits in turn keep
pub keeps_trans : (b n : ℕ) (old : Option Layout) (o p : Layout) → Keeps b n old o → Keeps b n (Some o) p → Keeps b n old p
keeps_trans b n old o p x y = record {
  sectors = y.sectors;
  shaped = y.shaped;
  mbr = λ m. x.mbr (y.mbr m);
  labels = λ s stands. label_step s (y.labels s stands);
  records = λ k r is. record_step k r (y.records k r is);
  logicals = λ e r is has. logical_step e r (y.logicals e r is has);
} where
  label_step : (s : Slice) → IsOldLabel b (Some o) s (label_of p.labels s.number) ⊎ IsNewLabel s (label_of p.labels s.number)
      → IsOldLabel b old s (label_of p.labels s.number) ⊎ IsNewLabel s (label_of p.labels s.number)
  label_step s (inl (was, is, stays)) =
      label_trans b old s was (label_of o.labels was.number) (label_of p.labels s.number) is.first is.len (x.labels was is.stands) stays
  label_step s (inr new) = inr new

  record_step : (k : ℕ) (r : Record) → IsOldRecord (Some o) k r ⊎ IsMadeRecord r → IsOldRecord old k r ⊎ IsMadeRecord r
  record_step k r (inl (q, was, typed)) = record_trans old k q r (x.records k q was) typed
  record_step k r (inr made) = inr made

  logical_step : (e : Ebr) (r : Record) → IsOldLogical (Some o) e r ⊎ IsMadeLogical r → IsOldLogical old e r ⊎ IsMadeLogical r
  logical_step e r (inl was) = logical_trans old was.was e was.old r was.place (x.logicals was.was was.old was.stands was.logical) was.typed
  logical_step e r (inr made) = inr made
