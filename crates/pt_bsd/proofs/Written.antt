-- What is written is the label.
use Rattle.std.proofs.Common.{◌≡◌, ◌⊎◌, ℕ, zero, suc, ◌+◌, ◌<◌, ◌≤◌, List, [], ◌∷◌, Option, Some, None, take, ap, subst, ◌∙◌, arith, lit≤}
use Rattle.pt_sector.specs.Sectors.{number_at}
use Rattle.std.proofs.Common.{inl, inr}
use Rattle.std.specs.Prelude.{slice_range, slice_index_or}
use Rattle.std.proofs.lemmas.Bool.{cases_lt}
use Rattle.byteorder.specs.Endian.{little_number}
use Rattle.pt_sum.specs.Sums.{xor_of}
use Rattle.pt_bsd.specs.Labels.{HasSum, HasRaw, HasLabelFields, IsEntry, LabelBytes, entry_of, place_of, counted_in, count_of}
use Rattle.pt_bsd.specs.Labels.{IsCounted, IsRaw, FitsSlice}
use Rattle.pt_bsd.proofs.CountedLemmas.{IsThere}
use Rattle.pt_bsd.specs.inner.Labels.{ChangesOnly, HasFront, EntryIsPut, PutSoFar}
use Rattle.pt_bsd.specs.declared.label.Label.{Label}
use Rattle.pt_bsd.specs.declared.label.LabelEntry.{LabelEntry}
use Rattle.pt_bsd.proofs.Parts.{range_kept}
use Rattle.pt_bsd.proofs.Entries.{put_kept}

-- the parts before the entries, but for the sum
abbrev Keeps : List ℕ → List ℕ → Type 0
Keeps a b = (p q : ℕ) → p ≤ q → (q ≤ 136) ⊎ ((138 ≤ p) × (q ≤ 148)) → slice_range b p q ≡ slice_range a p q

keeps_of : (n : ℕ) (a b c : List ℕ) → ChangesOnly 148 (place_of n) a b → ChangesOnly 136 138 b c → Keeps a c
keeps_of n a b c entries sum p q up (inl low) =
    range_kept 136 138 p q b c sum up (inl low) ∙ range_kept 148 (place_of n) p q a b entries up (inl (omega arith))
keeps_of n a b c entries sum p q up (inr (high, low)) =
    range_kept 136 138 p q b c sum up (inr high) ∙ range_kept 148 (place_of n) p q a b entries up (inl low)

fields_kept : (l : Label) (a b : List ℕ) → Keeps a b → HasLabelFields l a → HasLabelFields l b
fields_kept l a b keeps f =
    let low : (p n : ℕ) → p + n ≤ 136 → number_at p n b ≡ number_at p n a =
    λ p n le. ap (little_number n) (keeps p (p + n) (omega arith) (inl le)) in
    let high : (p n : ℕ) → 138 ≤ p → p + n ≤ 148 → number_at p n b ≡ number_at p n a =
    λ p n ge le. ap (little_number n) (keeps p (p + n) (omega arith) (inr (ge, le))) in
    let g0 = low 44 4 (lit≤ tt) in
    let g1 = low 48 4 (lit≤ tt) in
    let g2 = low 52 4 (lit≤ tt) in
    let g3 = low 56 4 (lit≤ tt) in
    record {
      kind = low 4 2 (lit≤ tt) ∙ f.kind;
      subtype = low 6 2 (lit≤ tt) ∙ f.subtype;
      type_name = keeps 8 24 (lit≤ tt) (inl (lit≤ tt)) ∙ f.type_name;
      pack_name = keeps 24 40 (lit≤ tt) (inl (lit≤ tt)) ∙ f.pack_name;
      geometry = (λ i. g0 i ∷ g1 i ∷ g2 i ∷ g3 i ∷ []) ∙ f.geometry;
      unit = low 60 4 (lit≤ tt) ∙ f.unit;
      kept = keeps 64 132 (lit≤ tt) (inl (lit≤ tt)) ∙ f.kept;
      bbsize = high 140 4 (lit≤ tt) (lit≤ tt) ∙ f.bbsize;
      sbsize = high 144 4 (lit≤ tt) (lit≤ tt) ∙ f.sbsize;
    }

there_below : (entries : List (Option LabelEntry)) (k : ℕ) → k < count_of entries → IsThere (slice_index_or entries k None)
there_below [] k lt = absurd (omega arith)
there_below (None ∷ entries) k lt = absurd (omega arith)
there_below (Some e ∷ entries) zero lt = tt
there_below (Some e ∷ entries) (suc k) lt = there_below entries k (omega arith)

is_entry : (o : Option LabelEntry) (k n : ℕ) (bytes : List ℕ) → counted_in bytes ≡ n → (k < n → IsThere o) → (n ≤ k → o ≡ None)
    → (k < n → EntryIsPut o (place_of k) bytes) → IsEntry o k bytes
is_entry None k n bytes count there none put = elim (cases_lt k n) [ inl lt ↦ absurd (there lt) | inr ge ↦ omega (arith, count) ]
is_entry (Some e) k n bytes count there none put =
    elim (cases_lt k n) [ inl lt ↦ (omega (arith, count), put lt) | inr ge ↦ absurd (subst IsThere (none ge) tt) ]

raw_of : (o : Option LabelEntry) (first len : ℕ) (bytes : List ℕ) → IsRaw o first len → EntryIsPut o 180 bytes → HasRaw first len bytes
raw_of None first len bytes raw put = absurd raw
raw_of (Some e) first len bytes (size, inl relative) put = record { size = put.size ∙ size; start = inl (put.offset ∙ relative) }
raw_of (Some e) first len bytes (size, inr absolute) put = record { size = put.size ∙ size; start = inr (put.offset ∙ absolute) }

-- after the front, the entries and the sum
pub written : (l : Label) (n first len : ℕ) (a b c : List ℕ) → n ≡ count_of l.entries → n ≤ 8 → HasFront l n a
    → PutSoFar l.entries n a b → ChangesOnly 136 138 b c → xor_of (take (place_of n) c) ≡ 0
    → IsCounted l → FitsSlice l first len → LabelBytes l first len c
unfolding HasSum
written l n first len a b c is most front entries changed sum counted raw =
    let keeps = keeps_of n a b c entries.only changed in
    let count : counted_in c ≡ n = ap (little_number 2) (keeps 138 140 (lit≤ tt) (inr (lit≤ tt, lit≤ tt))) ∙ front.count in
    let put : (k : ℕ) → k < n → EntryIsPut (entry_of l k) (place_of k) c =
    λ k lt. put_kept (entry_of l k) (place_of k) 136 138 b c changed (inr (omega arith)) (entries.each k lt) in
    record {
      magics = record {
        first = ap (little_number 4) (keeps 0 4 (lit≤ tt) (inl (lit≤ tt))) ∙ front.magics.first;
        second = ap (little_number 4) (keeps 132 136 (lit≤ tt) (inl (lit≤ tt))) ∙ front.magics.second;
      };
      count = record { least = omega (arith, count, is, counted.least); most = omega (arith, count) };
      sum = rw count sum;
      sector_size = ap (little_number 4) (keeps 40 44 (lit≤ tt) (inl (lit≤ tt))) ∙ front.sector_size;
      raw = raw_of (entry_of l 2) first len c raw (put 2 (omega (arith, is, counted.least)));
      fields = fields_kept l a c keeps front.fields;
      entries = record {
        places = counted.places;
        each = λ k lt. is_entry (entry_of l k) k n c count
            (λ below. there_below l.entries k (omega (arith, is)))
            (λ above. counted.others k (omega (arith, is)) lt)
            (put k);
      };
    }
