-- What the label places of an MBR hold once a plan is done that makes it where none was.
use Rattle.std.proofs.Common.{◌≡◌, ◌∙◌, ◌⊎◌, inl, inr, ⊎_elim, ℕ, ◌<◌, List, [], ◌∷◌, length, drop, replicate, refl, sym, ap, subst, arith}
use Rattle.std.proofs.Common.{Option, Some, None, Bool, true, false}
use Rattle.std.specs.Prelude.{Contains}
use Rattle.std.proofs.lemmas.Bool.{cases_lt}
use Rattle.pt_sector.specs.Sectors.{Sectors, sector, Writes, after}
use Rattle.pt_sector.specs.inner.Sectors.{value_after}
use Rattle.pt_sector.specs.inner.ForFields.{length-written}
use Rattle.pt_sector.proofs.Written.{sector-written}
use Rattle.pt_bsd.specs.Labels.{end_of}
use Rattle.pt_bsd.specs.declared.label.Label.{Label}
use Rattle.pt_bsd.proofs.Equal.{label_decides}
use Rattle.pt_recover.specs.Denotes.{Denotes, LabelAt, LabelsAre, Reads, label}
use Rattle.pt_members.specs.Members.{places_of, place_of, IsPlace}
use Rattle.pt_members.specs.declared.layout.Labelled.{Labelled}
use Rattle.pt_members.specs.declared.layout.Layout.{Layout}
use Rattle.pt_members.specs.declared.layout.Slice.{Slice}
use Rattle.pt_members.proofs.Grouped.{contains_head, contains_tail, contains_cases}
use Rattle.pt_apply.specs.Plans.{writes_in}
use Rattle.pt_cases.specs.Cases.{IsPlan}
use Rattle.pt_cases.specs.NewMbr.{emptied, empty_head, IsNewMbr, IsTurning, filled, empty}
use Rattle.pt_cases.specs.Writes.{Had, IsEncoded, IsFresh, IsLabelTarget, kept, changed, new, one_write}
use Rattle.pt_cases.proofs.Frames.{is_place, misses, one_is}
use Rattle.pt_cases.proofs.LabelPlaces.{place_below}
use Rattle.pt_plan.proofs.NewMbr.{after_writes, new_long, new_sectors, read_stays, tables_stay}
use Rattle.pt_cases.proofs.NewMbr.{emptied_places}
use Rattle.pt_plan.specs.Commits.{HoldsTarget}

-- ## One of these places bears a label, at this sector, or none does.

abbrev pub OneAt : Sectors → List Slice → ℕ → Type 0
OneAt d ws s = (w : Slice) × (m : Label) × Contains ws w × (place_of w ≡ s) × LabelAt d w m

abbrev pub NoneAt : Sectors → List Slice → ℕ → Type 0
NoneAt d ws s = (w : Slice) (m : Label) → Contains ws w → place_of w ≡ s → ¬ LabelAt d w m

same_or_not : (j k : ℕ) → (j ≡ k) ⊎ ¬ (j ≡ k)
same_or_not j k = ⊎_elim
    (λ less. inr (λ is. omega (arith, less, is)))
    (λ more. ⊎_elim (λ less. inr (λ is. omega (arith, less, is))) (λ other. inl (omega (arith, more, other))) (cases_lt k j))
    (cases_lt j k)

module _ (d : Sectors) (s : ℕ) where
  more_one : (x : Slice) (ws : List Slice) → OneAt d ws s → OneAt d (x ∷ ws) s
  more_one x ws (w, m, stands, at, is) = (w, m, contains_tail x ws w stands, at, is)

  more_none : (x : Slice) (ws : List Slice) → (place_of x ≡ s → (m : Label) → ¬ LabelAt d x m) → NoneAt d ws s → NoneAt d (x ∷ ws) s
  more_none x ws first rest w m stands at is = ⊎_elim
      (λ same. first (ap place_of same ∙ at) m (subst (λ (y : Slice). LabelAt d y m) (sym same) is))
      (λ later. rest w m later at is)
      (contains_cases x ws w stands)

  pub one_or_none : (ws : List Slice) (labels : List Labelled) → LabelsAre d ws labels → OneAt d ws s ⊎ NoneAt d ws s
  one_or_none [] labels are = inr (λ w m stands at is. (let lt = stands.1 in omega (arith, lt)))
  one_or_none (x ∷ ws) labels (inl (m, rest, is, label_at, are)) = ⊎_elim
      (λ here. inl (x, m, contains_head x ws, here, label_at))
      (λ other. ⊎_elim (λ one. inl (more_one x ws one)) (λ none. inr (more_none x ws (λ at. absurd (other at)) none))
      (one_or_none ws rest are))
      (same_or_not (place_of x) s)
  one_or_none (x ∷ ws) labels (inr (none, are)) =
      ⊎_elim (λ one. inl (more_one x ws one)) (λ nothing. inr (more_none x ws (λ at m is. none (m, is)) nothing))
      (one_or_none ws labels are)

-- ## The target of a label on the emptied disk is its target on d.

-- of two labels it is told whether they are one
equal_or_not : (m l : Label) → (m ≡ l) ⊎ ¬ (m ≡ l)
equal_or_not m l = by_test _ (label_decides m l)
  where
    by_test : (t : Bool) → ((t ≡ true → m ≡ l) × (m ≡ l → t ≡ true)) → (m ≡ l) ⊎ ¬ (m ≡ l)
    by_test true says = inl (says.0 refl)
    by_test false says = inr (λ same. (let never : false ≡ true = says.1 same in absurd cc))

module _ (b : ℕ) (d e : Sectors) (w : Slice) (l : Label) (v : List ℕ) (same : sector e (place_of w) ≡ sector d (place_of w)) where
  fresh_on : IsFresh b e l w v → IsFresh b d l w v
  fresh_on is = record {
    encoded = is.encoded;
    one = λ stands. is.one (subst (IsEncoded l w (replicate b 0)) (sym same) stands) ∙ same;
  }

  module _ (o : Option Layout) (fresh : IsFresh b e l w v) where
    -- where a label stood, which recovery read, nothing is written
    over_one : (m : Label) → Had b d o (place_of w) m → v ≡ sector d (place_of w) → IsLabelTarget b d o w l v
    over_one m had stays = ⊎_elim
        (λ is. kept (subst (Had b d o (place_of w)) is had) fresh.encoded.reads stays)
        (λ other. changed m had other (record { reads = fresh.encoded.reads; rest = ap (drop (end_of l)) stays }))
        (equal_or_not m l)

-- ## After the plan.

module _ (b : ℕ) (d : Sectors) (p : Layout) (phases : List Writes) (is : IsNewMbr b d p phases) (w : Slice) (l : Label)
    (stands : Contains (places_of b p.sectors p.body) w)
    (base : (ps : List Writes) → IsPlan b (emptied d) p ps
    → (q : Option Layout) × Denotes b (emptied d) q × HoldsTarget b (emptied d) q ps w l) where
  abbrev s : ℕ
  s = place_of w

  at_place : IsPlace (places_of b p.sectors p.body) s
  at_place = is_place (places_of b p.sectors p.body) w stands

  low : 0 < s
  low = omega arith

  high : s < length d
  high =
      let lt = place_below b p.sectors p.body s at_place in
      let n = new_sectors b d p phases is in
      omega (arith, lt, n)

  bytes_same : sector (emptied d) s ≡ sector d s
  bytes_same = misses d (one_write 0 (empty_head (sector d 0))) s
      (λ x puts. (let at = one_is 0 s (empty_head (sector d 0)) x puts in omega (arith, at, low)))

  -- the phases come to the same there on both disks
  after_same : (ps : List Writes) → sector (after ps d) s ≡ sector (after ps (emptied d)) s
  after_same ps =
      let count = length-written (one_write 0 (empty_head (sector d 0))) d in
      ap (λ (c : Sectors). sector c s) (after_writes ps d)
      ∙ sector-written (writes_in ps) d s high
      ∙ ap (value_after (writes_in ps) s) (sym bytes_same)
      ∙ sym (sector-written (writes_in ps) (emptied d) s (omega (arith, high, count)))
      ∙ ap (λ (c : Sectors). sector c s) (sym (after_writes ps (emptied d)))

  -- on the emptied disk no label stood
  bare : (q : Option Layout) (m : Label) → Denotes b (emptied d) q → ¬ Had b (emptied d) q s m
  bare q m from (y, of_y, had) =
      let denotes : Denotes b (emptied d) (Some y) = subst (Denotes b (emptied d)) of_y from in
      emptied_places b d is.makes.some (new_long b d p phases is) y.body denotes.1 (length (emptied d)) s
      (subst (IsPlace (places_of b (length (emptied d)) y.body)) had.place
      (is_place (places_of b (length (emptied d)) y.body) had.slice had.stands))

  held_on : (q : Option Layout) (v : List ℕ) → Denotes b (emptied d) q → IsLabelTarget b (emptied d) q w l v
      → sector (after is.turning d) s ≡ v → HoldsTarget b d is.old phases w l
  held_on q v from (kept had reads stays) held = absurd (bare q l from had)
  held_on q v from (changed m had other encoded) held = absurd (bare q m from had)
  held_on q v from (new none fresh) held = record {
    bytes = v;
    target = target_on is.old is.makes.from refl;
    held = tables_stay b d p phases is s (inr at_place) ∙ held;
  }
    where
      unwritten : Reads b d s → v ≡ sector d s
      unwritten reads = sym held ∙ ap (λ (c : Sectors). sector c s) (after_writes is.turning d)
          ∙ misses d (writes_in is.turning) s (λ x puts. read_stays b d p phases is s x low reads puts)

      target_on : (o : Option Layout) → Denotes b d o → o ≡ is.old → IsLabelTarget b d is.old w l v
      target_on None from same = new
          (λ m had. (let never : None ≡ Some had.0 = same ∙ had.1 in absurd cc))
          (fresh_on b d (emptied d) w l v bytes_same fresh)
      target_on (Some o) from same = ⊎_elim
          (λ one. over_one b d (emptied d) w l v bytes_same is.old fresh one.1
          (o, sym same, record { slice = one.0; stands = one.2; place = one.3; label = one.4 })
          (unwritten (label o.body from.1 (subst (IsPlace (places_of b (length d) o.body)) one.3
          (is_place (places_of b (length d) o.body) one.0 one.2)))))
          (λ none. new
          (λ m had. no_label o from same none m had)
          (fresh_on b d (emptied d) w l v bytes_same fresh))
          (one_or_none d s (places_of b (length d) o.body) o.labels from.2)
        where
          no_label : (o : Layout) → Denotes b d (Some o) → Some o ≡ is.old → NoneAt d (places_of b (length d) o.body) s → (m : Label)
              → ¬ Had b d is.old s m
          no_label o from same none m had =
              let it : o ≡ had.0 = (let both : Some o ≡ Some had.0 = same ∙ had.1 in cc) in
              none had.2.slice m (subst (λ (y : Layout). Contains (places_of b (length d) y.body) had.2.slice) (sym it) had.2.stands)
              had.2.place had.2.label

  pub new_mbr_holds : HoldsTarget b d is.old phases w l
  new_mbr_holds = by_turning is.turns
    where
      by_turning : IsTurning b d p is.turning → HoldsTarget b d is.old phases w l
      by_turning (filled plan some) =
          let it = base is.turning plan in held_on it.0 it.2.bytes it.1 it.2.target (after_same is.turning ∙ it.2.held)
      by_turning (empty plan same) =
          let it = base [] plan in
          held_on it.0 it.2.bytes it.1 it.2.target (ap (λ (ps : List Writes). sector (after ps d) s) same ∙ it.2.held)
