-- Entries that are written in their places.
use Rattle.std.proofs.Common.{◌≡◌, ◌⊎◌, ℕ, ◌+◌, ◌-◌, ◌≤◌, List, ◌++◌, Option, Some, None, length, take, drop, refl, sym, ap, ◌∙◌, arith}
use Rattle.pt_sector.specs.Sectors.{number_at}
use Rattle.std.proofs.Common.{inl, inr}
use Rattle.std.specs.Prelude.{slice_index_or}
use Rattle.std.proofs.lemmas.Bool.{cases_lt}
use Rattle.std.proofs.lemmas.List.{drop-drop, drop_at, length-take-le}
use Rattle.byteorder.specs.Endian.{little_number}
use Rattle.pt_bsd.specs.Labels.{HasEntry, place_of}
use Rattle.pt_bsd.specs.inner.Labels.{put_at, entry_from, LabelEntryFits, ChangesOnly, EntryIsPut, PutSoFar}
use Rattle.pt_bsd.specs.declared.label.LabelEntry.{LabelEntry}
use Rattle.pt_bsd.proofs.Front.{read_back}
use Rattle.pt_bsd.proofs.Parts.{range_kept, changes_wider, changes_both}

-- a number within a part that was put
number_put : (place at i n : ℕ) (part bytes : List ℕ) → place ≡ at + i → at ≤ length bytes
    → number_at place n (put_at at part bytes) ≡ little_number n (take n (drop i (part ++ drop (at + length part) bytes)))
unfolding put_at
number_put place at i n part bytes here within =
    let rest = part ++ drop (at + length part) bytes in
    let few : place + n - place ≡ n = omega arith in
    let behind : drop (at + i) (take at bytes ++ rest) ≡ drop i rest =
    sym (drop-drop i at (take at bytes ++ rest)) ∙ ap (drop i) (drop_at (take at bytes) rest at (length-take-le at bytes within)) in
    rw (few, here, behind) refl

entry_front : (e : LabelEntry) (rest : List ℕ) → LabelEntryFits e → HasEntry e 0 (entry_from e ++ rest)
unfolding entry_from put_at
entry_front e rest fits = record {
  size = read_back 4 e.size fits.size;
  offset = read_back 4 e.offset fits.offset;
  fragment = read_back 4 e.fragment fits.fragment;
  fstype = omega arith;
  frag = omega arith;
  cpg = read_back 2 e.cpg fits.cpg;
}

pub entry_put : (e : LabelEntry) (at : ℕ) (bytes : List ℕ) → at ≤ length bytes → LabelEntryFits e
    → HasEntry e at (put_at at (entry_from e) bytes)
entry_put e at bytes within fits =
    let part = entry_from e in
    let here = entry_front e (drop (at + length part) bytes) fits in
    record {
      size = number_put at at 0 4 part bytes (omega arith) within ∙ here.size;
      offset = number_put (at + 4) at 4 4 part bytes refl within ∙ here.offset;
      fragment = number_put (at + 8) at 8 4 part bytes refl within ∙ here.fragment;
      fstype = number_put (at + 12) at 12 1 part bytes refl within ∙ here.fstype;
      frag = number_put (at + 13) at 13 1 part bytes refl within ∙ here.frag;
      cpg = number_put (at + 14) at 14 2 part bytes refl within ∙ here.cpg;
    }

pub length-entry_from : (e : LabelEntry) → length (entry_from e) ≡ 16
unfolding entry_from put_at
length-entry_from e = refl

-- a number that doesn't meet the change
number_kept : (p n place i j : ℕ) (old new : List ℕ) → ChangesOnly i j old new → (place + 16 ≤ i) ⊎ (j ≤ place) → place ≤ p
    → p + n ≤ place + 16 → number_at p n new ≡ number_at p n old
number_kept p n place i j old new only (inl before) low high =
    ap (little_number n) (range_kept i j p (p + n) old new only (omega arith) (inl (omega arith)))
number_kept p n place i j old new only (inr behind) low high =
    ap (little_number n) (range_kept i j p (p + n) old new only (omega arith) (inr (omega arith)))

entry_kept : (e : LabelEntry) (place i j : ℕ) (old new : List ℕ) → ChangesOnly i j old new → (place + 16 ≤ i) ⊎ (j ≤ place)
    → HasEntry e place old → HasEntry e place new
entry_kept e place i j old new only apart here = record {
  size = number_kept place 4 place i j old new only apart (omega arith) (omega arith) ∙ here.size;
  offset = number_kept (place + 4) 4 place i j old new only apart (omega arith) (omega arith) ∙ here.offset;
  fragment = number_kept (place + 8) 4 place i j old new only apart (omega arith) (omega arith) ∙ here.fragment;
  fstype = number_kept (place + 12) 1 place i j old new only apart (omega arith) (omega arith) ∙ here.fstype;
  frag = number_kept (place + 13) 1 place i j old new only apart (omega arith) (omega arith) ∙ here.frag;
  cpg = number_kept (place + 14) 2 place i j old new only apart (omega arith) (omega arith) ∙ here.cpg;
}

pub put_kept : (o : Option LabelEntry) (place i j : ℕ) (old new : List ℕ) → ChangesOnly i j old new → (place + 16 ≤ i) ⊎ (j ≤ place)
    → EntryIsPut o place old → EntryIsPut o place new
put_kept None place i j old new only apart here = here
put_kept (Some e) place i j old new only apart here = entry_kept e place i j old new only apart here

-- one entry more
pub put_more : (entries : List (Option LabelEntry)) (i : ℕ) (old mid new : List ℕ) → PutSoFar entries i old mid
    → EntryIsPut (slice_index_or entries i None) (place_of i) new → ChangesOnly (place_of i) (place_of i + 16) mid new
    → PutSoFar entries (i + 1) old new
put_more entries i old mid new before here only = record {
  each = λ k lt. elim (cases_lt k i) [
    | inl less ↦ put_kept (slice_index_or entries k None) (place_of k) (place_of i) (place_of i + 16) mid new only
        (inl (omega arith)) (before.each k less)
    | inr ge ↦ let at : k ≡ i = omega arith in rw at here
  ];
  only = changes_both 148 (place_of (i + 1)) old mid new
      (changes_wider 148 (place_of i) 148 (place_of (i + 1)) old mid (omega arith) (omega arith) before.only)
      (changes_wider (place_of i) (place_of i + 16) 148 (place_of (i + 1)) mid new (omega arith) (omega arith) only);
}
