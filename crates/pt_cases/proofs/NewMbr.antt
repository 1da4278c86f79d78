-- The emptied disk: an MBR without partitions, of which recovery reads sector 0 alone.
use Rattle.std.proofs.Common.{◌≡◌, ◌∙◌, inl, inr, ⊎_elim, ℕ, ◌+◌, ◌<◌, ◌≤◌, List, [], ◌∷◌, ◌++◌, length, refl, sym, ap}
use Rattle.std.proofs.Common.{subst, arith, Option, Some, None, replicate, take, drop}
use Rattle.std.specs.Prelude.{slice_index, get_or}
use Rattle.std.proofs.Math.Nat.{min-le_right}
use Rattle.std.proofs.lemmas.Bool.{cases_lt}
use Rattle.std.proofs.lemmas.List.{get_or_past, length-take, length-drop, length-append}
use Rattle.pt_sector.specs.Sectors.{Sectors, Writes, sector}
use Rattle.pt_sector.specs.inner.ForFields.{length-written}
use Rattle.pt_mbr.specs.Records.{put_at, HasSignature, HasBootIndicators, IsMbrFormed, AreRecords, RecordIs, BearsProtective, extended_of}
use Rattle.pt_mbr.proofs.Encoding.{put_here, index_at}
use Rattle.pt_mbr.specs.declared.ebr.Ebr.{Ebr}
use Rattle.pt_mbr.specs.declared.record.Record.{Record}
use Rattle.pt_recover.specs.Denotes.{Denotes, Reads, BodyReads, body, label, head, chain, table, BodyIs, IsMbr, IsMbrDisk, IsMbrSector}
use Rattle.pt_recover.specs.Denotes.{ExtendedReads, HasChain}
use Rattle.pt_layout.specs.Healthy.{VerdictReads}
use Rattle.pt_members.specs.Members.{places_of, slices_of, tops, logicals, records_as, logicals_as, IsPlace}
use Rattle.pt_members.specs.declared.layout.Body.{Body}
use Rattle.pt_members.specs.declared.layout.Body.TheVariants.{Mbr, Gpt}
use Rattle.pt_cases.specs.Cases.{HadMbr}
use Rattle.pt_cases.specs.Keeps.{IsMbrBody, Keeps, WasMbr}
use Rattle.pt_cases.specs.Kept.{IsKept, IsPlanBy}
use Rattle.pt_cases.specs.NewMbr.{empty_head, emptied, MakesMbr, UnplannedBy, UnplannedKept, failed, as_ever, no_mbr}
use Rattle.pt_cases.specs.Unplanned.{IsFailure, Unplanned}
use Rattle.pt_cases.specs.declared.primary.Primary.TheVariants.{Kept}
use Rattle.pt_cases.specs.declared.targets.error.PlanError.{PlanError}
use Rattle.pt_members.specs.declared.layout.Layout.{Layout}
use Rattle.pt_recover.proofs.Terms.{denotes_one_lem}
use Rattle.pt_cases.specs.Writes.{one_write}
use Rattle.pt_cases.proofs.Frames.{there_one}

-- ## The bytes of its sector 0.

abbrev pub put : List ℕ
put = replicate 64 0 ++ (0x55 ∷ 0xAA ∷ [])

module _ (under : List ℕ) (long : 446 ≤ length under) where
  here : drop 446 (empty_head under) ≡ put ++ drop (446 + length put) under
  here = put_here 446 put under long

  at : (k : ℕ) → slice_index (empty_head under) (446 + k) ≡ get_or (put ++ drop (446 + length put) under) k 0
  at k = index_at 446 k (empty_head under) (put ++ drop (446 + length put) under) here

  signed : HasSignature (empty_head under)
  unfolding HasSignature
  signed = (at 64, at 65)

  pub formed_head : IsMbrFormed (empty_head under)
  unfolding HasBootIndicators
  formed_head = record { signature = signed; boots = (inl (at 0), inl (at 16), inl (at 32), inl (at 48)) }

  not_protective : (n : ℕ) → n ≡ 0 → ¬ (n ≡ 0xEE)
  not_protective n none is = omega (arith, none, is)

  pub plain_head : ¬ BearsProtective (empty_head under)
  unfolding BearsProtective
  plain_head bears = ⊎_elim (not_protective _ (at 4)) (⊎_elim (not_protective _ (at 20))
      (⊎_elim (not_protective _ (at 36)) (not_protective _ (at 52)))) bears

  unused : (r : Option Record) (place : ℕ) → slice_index (empty_head under) (place + 4) ≡ 0 → RecordIs r place (empty_head under) → r ≡ None
  unused None place none is = refl
  unused (Some r) place none is = absurd (is.0.0 none)

  four_none : (m : List (Option Record)) → length m ≡ 4 → get_or m 0 None ≡ None → get_or m 1 None ≡ None → get_or m 2 None ≡ None
      → get_or m 3 None ≡ None → m ≡ None ∷ None ∷ None ∷ None ∷ []
  four_none [] count a b c d = absurd cc
  four_none (r ∷ []) count a b c d = absurd cc
  four_none (r ∷ s ∷ []) count a b c d = absurd cc
  four_none (r ∷ s ∷ t ∷ []) count a b c d = absurd cc
  four_none (r ∷ s ∷ t ∷ u ∷ []) count a b c d = rw (a, b, c, d) refl
  four_none (r ∷ s ∷ t ∷ u ∷ v ∷ rest) count a b c d = absurd cc

  pub no_records : (m : List (Option Record)) → AreRecords m (empty_head under) → m ≡ None ∷ None ∷ None ∷ None ∷ []
  no_records m are =
      four_none m are.four (unused _ 446 (at 4) are.first) (unused _ 462 (at 20) are.second) (unused _ 478 (at 36) are.third)
      (unused _ 494 (at 52) are.fourth)

-- so many bytes are there where the signature stands
pub long_head : (under : List ℕ) → HasSignature (empty_head under) → 446 ≤ length under
unfolding HasSignature put_at
long_head under is = ⊎_elim (λ short. absurd (none short)) (λ long. long) (cases_lt (length under) 446)
  where
    count : length under < 446 → length (empty_head under) ≤ 511
    count short =
        let front = length-take 446 under in
        let back = length-drop (446 + length put) under in
        let tail = length-append put (drop (446 + length put) under) in
        let all = length-append (take 446 under) (put ++ drop (446 + length put) under) in
        let bound = min-le_right 446 (length under) in
        omega (arith, short, front, back, tail, all, bound)

    none : length under < 446 → ⊥
    none short = (let past = get_or_past (empty_head under) 511 0 (count short) in let at = is.1 in omega (arith, past, at))

-- ## What recovery reads of it.

-- no records have no places
none_placed : (b n s : ℕ) → ¬ IsPlace (places_of b n (Mbr (None ∷ None ∷ None ∷ None ∷ []) [])) s
unfolding places_of slices_of tops logicals records_as logicals_as
none_placed b n s is = is

none_extended : extended_of (None ∷ None ∷ None ∷ None ∷ []) ≡ []
unfolding extended_of
none_extended = refl

module _ (b : ℕ) (d : Sectors) (some : 0 < length d) (long : 446 ≤ length (sector d 0)) where
  pub emptied_head : sector (emptied d) 0 ≡ empty_head (sector d 0)
  emptied_head = there_one d 0 (empty_head (sector d 0)) some

  pub emptied_mbr : IsMbrDisk (emptied d)
  emptied_mbr =
      let count = length-written (one_write 0 (empty_head (sector d 0))) d in
      let is : IsMbrSector (empty_head (sector d 0)) =
      record { formed = formed_head (sector d 0) long; plain = plain_head (sector d 0) long } in
      (omega (arith, some, count), subst IsMbrSector (sym emptied_head) is)

  none_of : (m : List (Option Record)) → IsMbr (emptied d) m → m ≡ None ∷ None ∷ None ∷ None ∷ []
  none_of m is = no_records (sector d 0) long m (subst (AreRecords m) emptied_head is.1)

  lone_none : (m : List (Option Record)) → IsMbr (emptied d) m → extended_of m ≡ []
  lone_none m is = ap extended_of (none_of m is) ∙ none_extended

  -- its body has no label places
  pub emptied_places : (y : Body) → BodyIs b (emptied d) y → (n s : ℕ) → ¬ IsPlace (places_of b n y) s
  emptied_places (Gpt t) is n s place = is.0 emptied_mbr
  emptied_places (Mbr m c) is n s place =
      let chain_none : c ≡ [] = subst (λ (rs : List Record). HasChain (emptied d) rs c) (lone_none m is.0) is.1 in
      none_placed b n s (subst (λ (x : List Ebr). IsPlace (places_of b n (Mbr (None ∷ None ∷ None ∷ None ∷ []) x)) s) chain_none
      (subst (λ (x : List (Option Record)). IsPlace (places_of b n (Mbr x c)) s) (none_of m is.0) place))

  body_head : (s : ℕ) → BodyReads b (emptied d) s → s ≡ 0
  body_head s (head lt is) = is
  body_head s (chain m is reads) = absurd (subst (λ (rs : List Record). ExtendedReads (emptied d) rs s) (lone_none m is) reads)
  body_head s (table other room reads) = absurd (other emptied_mbr)

  -- recovery reads sector 0 alone
  pub emptied_reads : (s : ℕ) → Reads b (emptied d) s → s ≡ 0
  emptied_reads s (body is) = body_head s is
  emptied_reads s (label y is place) = absurd (emptied_places y is (length (emptied d)) s place)

  -- and so does a verdict
  pub emptied_verdict : (s : ℕ) → VerdictReads b (emptied d) s → s ≡ 0
  emptied_verdict s (inl reads) = emptied_reads s reads
  emptied_verdict s (inr backup) = absurd (backup.0 emptied_mbr)

pub emptied_is_alone : (b : ℕ) (d : Sectors) (s : ℕ) → 0 < length d → 512 ≤ length (sector d 0) → VerdictReads b (emptied d) s → s ≡ 0
emptied_is_alone b d s some long reads = emptied_verdict b d some (omega (arith, long)) s reads

-- ## Where words make an MBR, one was there.

had_mbr : (o : Option Layout) → WasMbr o → HadMbr o
had_mbr None was = absurd was
had_mbr (Some l) was = by_body l.body refl was
  where
    by_body : (y : Body) → l.body ≡ y → IsMbrBody y → HadMbr (Some l)
    by_body (Mbr records links) is mbr = record { old = l; records = records; chain = links; is_old = refl; body = is }
    by_body (Gpt t) is mbr = absurd mbr

was_mbr : (o : Option Layout) (p : Layout) (records : List (Option Record)) (links : List Ebr) → p.body ≡ Mbr records links
    → (IsMbrBody p.body → WasMbr o) → HadMbr o
was_mbr o p records links is keeps = had_mbr o (keeps (subst IsMbrBody (sym is) tt))

module _ (b : ℕ) (d : Sectors) (o : Option Layout) (p : Layout) (from : Denotes b d o) (keeps : Keeps b (length d) o p) where
  no_new : (q : Option Layout) → ¬ MakesMbr b d q p
  no_new q makes =
      let same : q ≡ o = denotes_one_lem b d q o makes.from from in
      makes.other (subst HadMbr (sym same) (was_mbr o p makes.records makes.chain makes.body keeps.mbr))

  as_kept : (phases : List Writes) → IsPlanBy Kept b d p phases → IsKept b d p phases
  as_kept phases (inl is) = is
  as_kept phases (inr is) = absurd (no_new is.old is.makes)

  as_unplanned : (e : PlanError) → UnplannedKept b d p e → ¬ IsFailure e → Unplanned b d p e
  as_unplanned e (failed is) inside = absurd (inside is)
  as_unplanned e (as_ever none is) inside = is
  as_unplanned e (no_mbr q makes is) inside = absurd (no_new q makes)

pub edit_is_kept : (b : ℕ) (d : Sectors) (o : Option Layout) (p : Layout) (phases : List Writes) → Denotes b d o
    → Keeps b (length d) o p → IsPlanBy Kept b d p phases → IsKept b d p phases
edit_is_kept b d o p phases from keeps is = as_kept b d o p from keeps phases is

pub edit_is_unplanned : (b : ℕ) (d : Sectors) (o : Option Layout) (p : Layout) (e : PlanError) → Denotes b d o
    → Keeps b (length d) o p → UnplannedBy Kept b d p e → ¬ IsFailure e → Unplanned b d p e
edit_is_unplanned b d o p e from keeps is inside = as_unplanned b d o p from keeps e is inside
