-- What is read of a body.
use Rattle.std.proofs.Common.{◌≡◌, ◌≢◌, ◌<◌, ℕ, List, length, Option, Some, None, refl, sym, ◌∙◌, subst, arith, inl, inr}
use Rattle.std.specs.Prelude.{◌⊎◌}
use Rattle.pt_sector.specs.Sectors.{Sectors}
use Rattle.pt_mbr.specs.declared.record.Record.{Record}
use Rattle.pt_gpt.proofs.Terms.{no_copy_lem}
use Rattle.pt_gpt.specs.declared.table.Side.TheVariants.{Primary, Backup}
use Rattle.pt_mbr.specs.Records.{extended_of}
use Rattle.pt_recover.specs.Denotes.{IsMbrDisk, IsMbr, ExtendedReads, TableReads, Denotes, BodyReads, head, chain, table, TellsNothing}
use Rattle.pt_recover.specs.Denotes.{TableIs, StandsAs}
use Rattle.pt_gpt.specs.Copies.{HasRoom, IsCopyFault}
use Rattle.pt_gpt.specs.declared.error.CopyError.{CopyError}
use Rattle.pt_gpt.specs.declared.header.Header.{Header}
use Rattle.pt_gpt.specs.declared.table.Table.{Table}
use Rattle.pt_recover.proofs.One.{mbr_one}
use Rattle.pt_recover.specs.inner.Denotes.{RestReads, of_chain, of_table}
use Rattle.pt_recover.specs.Spans.{Adds}
use Rattle.pt_recover.specs.declared.error.NoTable.TheVariants.{NoCopy, TooSmall}
use Rattle.pt_members.specs.declared.layout.Body.TheVariants.{Mbr, Gpt}
use Rattle.pt_recover.specs.declared.trace.TracedRun.{TracedRun}
use Rattle.pt_recover.proofs.Traces.{adds_none, adds_same, adds_both}

of_mbr : (b : ℕ) (d : Sectors) (m : List (Option Record)) (s : ℕ) → IsMbr d m → RestReads b d s → ExtendedReads d (extended_of m) s
of_mbr b d m s is (of_chain n other reads) =
    subst (λ (rs : List (Option Record)). ExtendedReads d (extended_of rs) s) (mbr_one d n m other is) reads
of_mbr b d m s is (of_table none room reads) = absurd (none is.0)

of_gpt : (b : ℕ) (d : Sectors) (s : ℕ) → ¬ IsMbrDisk d → RestReads b d s → TableReads b d s
of_gpt b d s none (of_chain n is reads) = absurd (none is.0)
of_gpt b d s none (of_table other room reads) = reads

pub rest_mbr : (b : ℕ) (d : Sectors) (m : List (Option Record)) (old new : List TracedRun) → IsMbr d m
    → Adds old new (ExtendedReads d (extended_of m)) → Adds old new (RestReads b d)
rest_mbr b d m old new is adds =
    adds_same old new (ExtendedReads d (extended_of m)) (RestReads b d) adds (λ s. (of_mbr b d m s is, λ reads. of_chain m is reads))

pub rest_mbr_or : (P : Type 0) (b : ℕ) (d : Sectors) (m : List (Option Record)) (old new : List TracedRun) → IsMbr d m
    → P ⊎ Adds old new (ExtendedReads d (extended_of m)) → P ⊎ Adds old new (RestReads b d)
rest_mbr_or P b d m old new is (inl out) = inl out
rest_mbr_or P b d m old new is (inr adds) = inr (rest_mbr b d m old new is adds)

pub rest_gpt : (b : ℕ) (d : Sectors) (old new : List TracedRun) → ¬ IsMbrDisk d → HasRoom b (length d) → Adds old new (TableReads b d)
    → Adds old new (RestReads b d)
rest_gpt b d old new none room adds =
    adds_same old new (TableReads b d) (RestReads b d) adds (λ s. (of_gpt b d s none, λ reads. of_table none room reads))

-- neither copy
no_body : (b : ℕ) (d : Sectors) (e f : CopyError) → ¬ IsMbrDisk d → IsCopyFault b d Primary e → IsCopyFault b d Backup f → Denotes b d None
no_body b d e f none first second (Mbr records ebrs) is = none is.0.0
no_body b d e f none first second (Gpt t) is =
    elim is.2 [ inl copy ↦ no_copy_lem b d Primary e first (t, copy) | inr other ↦ no_copy_lem b d Backup f second (t, other.1) ]

pub no_copies : (b : ℕ) (d : Sectors) (e f : CopyError) → ¬ IsMbrDisk d → HasRoom b (length d) → IsCopyFault b d Primary e
    → IsCopyFault b d Backup f → TellsNothing b d (NoCopy e f)
no_copies b d e f none room first second = inr (no_body b d e f none first second, (none, room, first, second))

-- the table of the copy that decides it
pub found_table : (b : ℕ) (d : Sectors) (o : Option CopyError) (h : Header) (t : Table) → HasRoom b (length d) → StandsAs b d o h t
    → TableIs b d t
found_table b d None h t room is = inl (record { room = room; head = h; stands = is })
found_table b d (Some e) h t room is =
    inr (no_copy_lem b d Primary e is.0, record { room = room; head = h; stands = is.1 })

small_body : (b : ℕ) (d : Sectors) → ¬ IsMbrDisk d → ¬ HasRoom b (length d) → Denotes b d None
small_body b d none small (Mbr records ebrs) is = none is.0.0
small_body b d none small (Gpt t) is = small is.1

pub too_small : (b : ℕ) (d : Sectors) → ¬ IsMbrDisk d → ¬ HasRoom b (length d) → TellsNothing b d TooSmall
too_small b d none small = inr (small_body b d none small, (none, small))

pub no_sector : (b : ℕ) (d : Sectors) (n m : ℕ) → n ≡ 0 → n ≡ m → length d ≡ m → TellsNothing b d TooSmall
no_sector b d n m none e f =
    let empty : length d ≡ 0 = omega arith in
    too_small b d (λ is. absurd (omega (arith, is.0))) (λ room. absurd (omega (arith, room)))

-- of a disk with no sectors nothing is read
none_reads : (b : ℕ) (d : Sectors) (s : ℕ) → length d ≡ 0 → BodyReads b d s → ⊥
none_reads b d s empty (head some at) = omega (arith, some, empty)
none_reads b d s empty (chain m is reads) = omega (arith, is.0.0, empty)
none_reads b d s empty (table none room reads) = omega (arith, room, empty)

pub no_sector_read : (b : ℕ) (d : Sectors) (n m : ℕ) (runs : List TracedRun) → n ≡ 0 → n ≡ m → length d ≡ m
    → Adds runs runs (BodyReads b d)
no_sector_read b d n m runs none e f = adds_none runs runs (BodyReads b d) refl (λ s reads. none_reads b d s (omega arith) reads)

whole_there : (b : ℕ) (d : Sectors) (s : ℕ) → BodyReads b d s → (s ≡ 0) ⊎ RestReads b d s
whole_there b d s (head some at) = inl at
whole_there b d s (chain m is reads) = inr (of_chain m is reads)
whole_there b d s (table none room reads) = inr (of_table none room reads)

whole_back : (b : ℕ) (d : Sectors) (s : ℕ) → 0 < length d → (s ≡ 0) ⊎ RestReads b d s → BodyReads b d s
whole_back b d s some (inl at) = head some at
whole_back b d s some (inr (of_chain m is reads)) = chain m is reads
whole_back b d s some (inr (of_table none room reads)) = table none room reads

pub body_read : (b : ℕ) (d : Sectors) (old mid new : List TracedRun) → 0 < length d → Adds old mid (λ s. s ≡ 0)
    → Adds mid new (RestReads b d) → Adds old new (BodyReads b d)
body_read b d old mid new some first second =
    adds_both old mid new (λ s. s ≡ 0) (RestReads b d) (BodyReads b d) first second (λ s. (whole_there b d s, whole_back b d s some))

pub body_read_or : (P : Type 0) (b : ℕ) (d : Sectors) (old mid new : List TracedRun) → 0 < length d → Adds old mid (λ s. s ≡ 0)
    → P ⊎ Adds mid new (RestReads b d) → P ⊎ Adds old new (BodyReads b d)
body_read_or P b d old mid new some first (inl out) = inl out
body_read_or P b d old mid new some first (inr second) = inr (body_read b d old mid new some first second)

pub some_sector : (n m k : ℕ) → n ≢ 0 → n ≡ m → k ≡ m → 0 < k
some_sector n m k some e f = omega arith

pub enough : (b n m k : ℕ) → HasRoom b n → n ≡ m → k ≡ m → HasRoom b k
enough b n m k room e f = subst (λ (x : ℕ). HasRoom b x) (e ∙ sym f) room

-- of a disk that is no MBR disk, and too small for a GPT, nothing is read beside sector 0
rest_nowhere : (b : ℕ) (d : Sectors) (s : ℕ) → ¬ IsMbrDisk d → ¬ HasRoom b (length d) → RestReads b d s → ⊥
rest_nowhere b d s none small (of_chain m is reads) = none is.0
rest_nowhere b d s none small (of_table other room reads) = small room

pub no_rest : (b : ℕ) (d : Sectors) (runs : List TracedRun) → ¬ IsMbrDisk d → ¬ HasRoom b (length d) → Adds runs runs (RestReads b d)
no_rest b d runs none small = adds_none runs runs (RestReads b d) refl (λ s reads. rest_nowhere b d s none small reads)
