-- Where the partitions of a draft lie.
use Rattle.std.specs.Prelude.{◌≡◌, ℕ, zero, suc, ◌+◌, ◌-◌, ◌/◌, ◌^◌, List, [], ◌∷◌, Option, Some, None, Result, Ok, Err, if◌then◌else◌}
use Rattle.std.specs.Prelude.{flat_map, nat_eq, nat_lt, ◌||◌}
use Rattle.std.specs.Option.{option_map}
use Rattle.pt_words.specs.declared.error.Refusal.{Refusal}
use Rattle.pt_words.specs.declared.word.End.{End}
use Rattle.pt_words.specs.declared.word.End.TheVariants.{Block, Length, At}
use Rattle.pt_edit.specs.declared.space.Run.{Run}
use Rattle.pt_edit.specs.Space.{Area, Placed, NotPlaced}
use Rattle.pt_drafts.specs.declared.draft.Extent.{Extent}
use Rattle.pt_drafts.specs.declared.draft.Extent.TheVariants.{Sectors, Bytes, Last}
use Rattle.pt_drafts.specs.declared.fault.Key.TheVariants as key
use Rattle.pt_drafts.specs.declared.draft.PartDraft.{PartDraft}
use Rattle.pt_drafts.specs.declared.fault.TextFault.{TextFault}
use Rattle.pt_set.specs.declared.head.Head.{Head}
use Rattle.pt_set.specs.Faults.{at}

-- ## Partitions of which the text says both ends.

-- the last of so many sectors, where it fits 64 bits; none where there is none
abbrev pub last_of : ℕ → ℕ → Option ℕ
last_of first count = if nat_eq count 0 || nat_lt (2 ^ 64) (first + count) then None else Some (first + count - 1)

-- a size in bytes is rounded down to sectors
abbrev pub end_by : ℕ → ℕ → Extent → Option ℕ
end_by b first (Sectors count) = last_of first count
end_by b first (Bytes count) = last_of first (count / b)
end_by b first (Last last) = Some last

abbrev pub run_by : ℕ → ℕ → Extent → Option Run
run_by b first x = option_map (λ last. record { first = first; last = last }) (end_by b first x)

abbrev pub stated_by : ℕ → Option ℕ → Option Extent → Option Run
stated_by b (Some first) (Some x) = run_by b first x
stated_by b (Some first) None = None
stated_by b None x = None

abbrev pub as_list : Option Run → List Run
as_list None = []
as_list (Some r) = r ∷ []

-- the sectors that these have, in all of a draft
abbrev pub stated : ℕ → List PartDraft → List Run
stated b parts = flat_map (λ p. as_list (stated_by b p.start p.extent)) parts

-- ## All partitions.

-- what is free is between the first and the last usable sector, and in none of these runs
abbrev pub area_of : Head → List Run → Area
area_of h runs = record { low = h.first; high = h.last; taken = runs; empties = None }

-- as the word `n` is asked for an end
abbrev pub end_of : ℕ → Option Extent → End
end_of b None = Block
end_of b (Some (Sectors count)) = Length count
end_of b (Some (Bytes count)) = Length (count / b)
end_of b (Some (Last last)) = At last

-- the place, as the word `n` finds it, or this fault where it finds none
abbrev pub IsFound : Area → ℕ → ℕ → End → TextFault → Result Run TextFault → Type 0
IsFound a alignment start end fault (Ok run) = Placed a alignment start end run
IsFound a alignment start end fault (Err e) = (e ≡ fault) × (r : Refusal) × NotPlaced a alignment start end r

-- the area where nothing has to stand before a partition
abbrev pub without_lead : Area → Area
without_lead a = record { low = a.low; high = a.high; taken = a.taken; empties = None }

-- from a sector on as far as is free; sector 0 has the disk's own table
abbrev pub IsFoundFrom : Area → ℕ → ℕ → Result Run TextFault → Type 0
IsFoundFrom a k zero r = r ≡ Err (at k key.Start)
IsFoundFrom a k (suc n) r = IsFound (without_lead a) 1 (suc n) Block (at k key.Start) r

abbrev pub ok_or_size : ℕ → Option Run → Result Run TextFault
ok_or_size k None = Err (at k key.Size)
ok_or_size k (Some run) = Ok run

-- where partition k of a draft lies: as its text says, or, without a size, from its start on as far as is free, or, without a start, in
-- the largest free block, at a multiple of 1 MiB, behind a free sector where the area asks for one
abbrev pub IsPlaceIn : ℕ → Area → ℕ → Option ℕ → Option Extent → Result Run TextFault → Type 0
IsPlaceIn b a k (Some start) (Some x) r = r ≡ ok_or_size k (run_by b start x)
IsPlaceIn b a k (Some start) None r = IsFoundFrom a k start r
IsPlaceIn b a k None x r = IsFound a (1048576 / b) 0 (end_of b x) (at k key.Size) r

-- that of a partition of a GPT; the runs are taken
abbrev pub IsPlace : ℕ → Head → List Run → ℕ → Option ℕ → Option Extent → Result Run TextFault → Type 0
IsPlace b h runs k start x r = IsPlaceIn b (area_of h runs) k start x r
