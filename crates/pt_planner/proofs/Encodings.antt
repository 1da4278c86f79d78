-- A label has one encoding over the same bytes.
use Rattle.std.proofs.Common.{◌≡◌, ℕ, zero, suc, ◌+◌, ◌<◌, ◌≤◌, List, length, get_or, take, drop, Option, Some, None, refl, sym, ap}
use Rattle.std.proofs.Common.{subst, ◌∙◌, arith, inl, inr, ext_get_or}
use Rattle.std.proofs.lemmas.Bool.{cases_lt}
use Rattle.pt_sector.specs.Sectors.{IsSectorSize, number_at}
use Rattle.pt_sum.specs.Sums.{xor_of}
use Rattle.pt_bsd.specs.Labels.{count_of, LabelBytes, HasSum, HasEntries, IsEntry, counted_in, entry_of, geometry_at, place_of}
use Rattle.pt_bsd.proofs.Terms.{label_count}
use Rattle.pt_bsd.specs.declared.label.Label.{Label}
use Rattle.pt_bsd.specs.declared.label.LabelEntry.{LabelEntry}
use Rattle.pt_members.specs.declared.layout.Slice.{Slice}
use Rattle.pt_cases.specs.Writes.{IsEncoded}
use Rattle.pt_planner.proofs.SameBytes.{AreBytes, Same, join, number_same, range_same, drop_same}
use Rattle.pt_planner.proofs.Sums.{sum_same}

no_sum : (v : List ℕ) → HasSum v → xor_of (take (place_of (counted_in v)) v) ≡ 0
unfolding HasSum
no_sum v has = has

no_sum_to : (n : ℕ) (v : List ℕ) → n ≡ counted_in v → HasSum v → xor_of (take (place_of n) v) ≡ 0
no_sum_to n v is has = subst (λ (k : ℕ). xor_of (take (place_of k) v) ≡ 0) (sym is) (no_sum v has)

module _ (v u : List ℕ) (bv : AreBytes v) (bu : AreBytes u) where
  -- a number of n bytes at place p
  number : (p n q : ℕ) → p + n ≡ q → number_at p n v ≡ number_at p n u → Same p q v u
  number p n q end same = number_same p n q v u bv bu end same

  -- a part behind another
  next : (p q r : ℕ) → Same p q v u → Same q r v u → Same p r v u
  next p q r low high = join p q r v u low high

  -- sectors per track, tracks, cylinders, sectors per cylinder
  geometry : geometry_at v ≡ geometry_at u → Same 44 60 v u
  geometry same =
      next 44 48 60 (number 44 4 48 refl (ap (λ (xs : List ℕ). get_or xs 0 0) same))
      (next 48 52 60 (number 48 4 52 refl (ap (λ (xs : List ℕ). get_or xs 1 0) same))
      (next 52 56 60 (number 52 4 56 refl (ap (λ (xs : List ℕ). get_or xs 2 0) same))
      (number 56 4 60 refl (ap (λ (xs : List ℕ). get_or xs 3 0) same))))

  -- the bytes before the checksum
  front : (l : Label) (first len : ℕ) → LabelBytes l first len v → LabelBytes l first len u → Same 0 136 v u
  front l first len x y =
      let f = x.fields in
      let g = y.fields in
      next 0 4 136 (number 0 4 4 refl (x.magics.first ∙ sym y.magics.first))
      (next 4 6 136 (number 4 2 6 refl (f.kind ∙ sym g.kind))
      (next 6 8 136 (number 6 2 8 refl (f.subtype ∙ sym g.subtype))
      (next 8 24 136 (range_same 8 24 v u (f.type_name ∙ sym g.type_name))
      (next 24 40 136 (range_same 24 40 v u (f.pack_name ∙ sym g.pack_name))
      (next 40 44 136 (number 40 4 44 refl (x.sector_size ∙ sym y.sector_size))
      (next 44 60 136 (geometry (f.geometry ∙ sym g.geometry))
      (next 60 64 136 (number 60 4 64 refl (f.unit ∙ sym g.unit))
      (next 64 132 136 (range_same 64 132 v u (f.kept ∙ sym g.kept))
      (number 132 4 136 refl (x.magics.second ∙ sym y.magics.second))))))))))

  -- those from the checksum to the entries
  tail : (l : Label) (first len : ℕ) → LabelBytes l first len v → LabelBytes l first len u → Same 138 148 v u
  tail l first len x y =
      let count : counted_in v ≡ counted_in u = sym (label_count l first len v x) ∙ label_count l first len u y in
      next 138 140 148 (number 138 2 140 refl count)
      (next 140 144 148 (number 140 4 144 refl (x.fields.bbsize ∙ sym y.fields.bbsize))
      (number 144 4 148 refl (x.fields.sbsize ∙ sym y.fields.sbsize)))

  -- the sixteen bytes of an entry that is counted
  entry : (o : Option LabelEntry) (k : ℕ) → IsEntry o k v → IsEntry o k u → k < counted_in v → Same (place_of k) (place_of k + 16) v u
  entry None k x y lt = absurd (omega (arith, x, lt))
  entry (Some e) k x y lt =
      let p = place_of k in
      let a = x.1 in
      let b = y.1 in
      next p (p + 4) (p + 16) (number p 4 (p + 4) refl (a.size ∙ sym b.size))
      (next (p + 4) (p + 8) (p + 16) (number (p + 4) 4 (p + 8) (omega arith) (a.offset ∙ sym b.offset))
      (next (p + 8) (p + 12) (p + 16) (number (p + 8) 4 (p + 12) (omega arith) (a.fragment ∙ sym b.fragment))
      (next (p + 12) (p + 13) (p + 16) (number (p + 12) 1 (p + 13) (omega arith) (a.fstype ∙ sym b.fstype))
      (next (p + 13) (p + 14) (p + 16) (number (p + 13) 1 (p + 14) (omega arith) (a.frag ∙ sym b.frag))
      (number (p + 14) 2 (p + 16) (omega arith) (a.cpg ∙ sym b.cpg))))))

  -- the first c entries
  entries : (l : Label) (c : ℕ) → c ≤ 8 → c ≤ counted_in v → HasEntries l v → HasEntries l u → Same 148 (place_of c) v u
  entries l zero most counts x y = λ k le lt. absurd (omega arith)
  entries l (suc c) most counts x y =
      next 148 (place_of c) (place_of (suc c)) (entries l c (omega arith) (omega arith) x y)
      (λ k le lt. entry (entry_of l c) c (x.each c (omega arith)) (y.each c (omega arith)) (omega arith) k le (omega arith))

  -- the checksum, where all else is the same
  checksum : (end : ℕ) → 138 ≤ end → end ≤ length v → length v ≡ length u → Same 0 136 v u → Same 138 end v u → xor_of (take end v) ≡ 0
      → xor_of (take end u) ≡ 0 → Same 136 138 v u
  checksum end low within long before behind p q k le lt =
      let word = sum_same end v u low within long before behind p q in
      let a = bv 136 in
      let b = bu 136 in
      let first : get_or v 136 0 ≡ get_or u 136 0 = omega (arith, word, a, b) in
      let second : get_or v 137 0 ≡ get_or u 137 0 = omega (arith, word, a, b) in
      elim (cases_lt k 137) [
        | inl less ↦ let at : k ≡ 136 = omega arith in rw at first
        | inr ge ↦ let at : k ≡ 137 = omega arith in rw at second
      ]

  -- two encodings of a label over the same bytes are one
  pub one_encoding : (l : Label) (w : Slice) (over : List ℕ) → length v ≡ length u → 512 ≤ length v → IsEncoded l w over v
      → IsEncoded l w over u → v ≡ u
  one_encoding l w over long large x y =
      let n = count_of l.entries in
      let end = place_of n in
      let cv : n ≡ counted_in v = label_count l w.first w.len v x.reads in
      let cu : n ≡ counted_in u = label_count l w.first w.len u y.reads in
      let most : n ≤ 8 = omega (arith, cv, x.reads.count.most) in
      let before = front l w.first w.len x.reads y.reads in
      let behind : Same 138 end v u =
      next 138 148 end (tail l w.first w.len x.reads y.reads) (entries l n most (omega (arith, cv)) x.reads.entries y.reads.entries) in
      let sum = checksum end (omega arith) (omega arith) long before behind (no_sum_to n v cv x.reads.sum) (no_sum_to n u cu y.reads.sum) in
      let whole : Same 0 end v u = next 0 136 end before (next 136 138 end sum behind) in
      let rest : drop end v ≡ drop end u = x.rest ∙ sym y.rest in
      ext_get_or 0 v u long (λ k lt. elim (cases_lt k end) [ inl less ↦ whole k (omega arith) less | inr ge ↦ drop_same end v u rest k ge ])

large : (b : ℕ) → IsSectorSize b → 512 ≤ b
large b (inl is) = omega arith
large b (inr is) = omega arith

-- so are two sectors
pub sector_one : (b : ℕ) (v u : List ℕ) (l : Label) (w : Slice) (over : List ℕ) → IsSectorSize b → AreBytes v → AreBytes u
    → length v ≡ b → length u ≡ b → IsEncoded l w over v → IsEncoded l w over u → v ≡ u
sector_one b v u l w over size bv bu cv cu x y =
    let wide = large b size in
    one_encoding v u bv bu l w over (cv ∙ sym cu) (omega (arith, wide, cv)) x y
