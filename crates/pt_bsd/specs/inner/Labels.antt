-- BSD labels: their bytes, their two forms, and their partitions: what private contracts cite.
use Rattle.std.specs.Prelude.{◌≡◌, ◌<◌, ◌^◌, ◌+◌, ℕ, ⊤, List, [], ◌∷◌, ◌++◌, Option, Some, None, length, take, drop, replicate}
use Rattle.pt_sector.specs.Sectors.{number_at}
use Rattle.std.specs.Prelude.{slice_index, slice_index_or}
use Rattle.std.specs.List.{flat_map}
use Rattle.byteorder.specs.Endian.{little_bytes}
use Rattle.pt_bsd.specs.Labels.{HasMagics, HasSectorSize, HasLabelFields, HasEntry, counted_in, place_of}
use Rattle.pt_bsd.specs.declared.label.Label.{Label}
use Rattle.pt_bsd.specs.declared.label.LabelEntry.{LabelEntry}

-- bytes written from place i on
unfoldable pub put_at : ℕ → List ℕ → List ℕ → List ℕ
put_at i part bytes = take i bytes ++ (part ++ drop (i + length part) bytes)

-- nothing changes but from place i to before place j
pub record ChangesOnly (i j : ℕ) (old new : List ℕ) : Type 0 where
  pub count : length new ≡ length old
  pub before : take i new ≡ take i old
  pub behind : drop j new ≡ drop j old

-- the label's first 64 bytes, with these names and this geometry
unfoldable pub head_from : Label → List ℕ → List ℕ → List ℕ → List ℕ
head_from l type_name pack_name geometry =
    put_at 60 (little_bytes 4 l.unit)
    (put_at 44 (flat_map (little_bytes 4) geometry)
    (put_at 40 (little_bytes 4 512)
    (put_at 24 pack_name
    (put_at 8 type_name
    (put_at 6 (little_bytes 2 l.subtype)
    (put_at 4 (little_bytes 2 l.kind)
    (put_at 0 (little_bytes 4 0x82564557) (replicate 64 0))))))))

-- its numbers and lists fit their places
pub record HeadFits (l : Label) : Type 0 where
  pub kind : l.kind < 2 ^ 16
  pub subtype : l.subtype < 2 ^ 16
  pub type_name : length l.type_name ≡ 16
  pub pack_name : length l.pack_name ≡ 16
  pub geometry : length l.geometry ≡ 4
  pub numbers : (i : ℕ) → slice_index l.geometry i < 2 ^ 32
  pub unit : l.unit < 2 ^ 32

-- bytes 132 to 147, counting n entries, with zeros in place of the sum
unfoldable pub tail_from : Label → ℕ → List ℕ
tail_from l n =
    put_at 12 (little_bytes 4 l.sbsize)
    (put_at 8 (little_bytes 4 l.bbsize)
    (put_at 6 (little_bytes 2 n)
    (put_at 0 (little_bytes 4 0x82564557) (replicate 16 0))))

pub record TailFits (l : Label) : Type 0 where
  pub bbsize : l.bbsize < 2 ^ 32
  pub sbsize : l.sbsize < 2 ^ 32

unfoldable pub entry_from : LabelEntry → List ℕ
entry_from e =
    put_at 14 (little_bytes 2 e.cpg)
    (put_at 12 (e.fstype ∷ e.frag ∷ [])
    (put_at 8 (little_bytes 4 e.fragment)
    (put_at 4 (little_bytes 4 e.offset)
    (put_at 0 (little_bytes 4 e.size) (replicate 16 0)))))

pub record LabelEntryFits (e : LabelEntry) : Type 0 where
  pub size : e.size < 2 ^ 32
  pub offset : e.offset < 2 ^ 32
  pub fragment : e.fragment < 2 ^ 32
  pub cpg : e.cpg < 2 ^ 16

-- the label's numbers and names stand in their places, n entries are counted, and there is no sum yet
pub record HasFront (l : Label) (n : ℕ) (bytes : List ℕ) : Type 0 where
  pub magics : HasMagics bytes
  pub count : counted_in bytes ≡ n
  pub sum : number_at 136 2 bytes ≡ 0
  pub sector_size : HasSectorSize bytes
  pub fields : HasLabelFields l bytes

-- an entry that is there stands at this place
abbrev pub EntryIsPut : Option LabelEntry → ℕ → List ℕ → Type 0
EntryIsPut None place bytes = ⊤
EntryIsPut (Some e) place bytes = HasEntry e place bytes

-- the first i entries are put in their places, and nothing else changed
pub record PutSoFar (entries : List (Option LabelEntry)) (i : ℕ) (old new : List ℕ) : Type 0 where
  pub each : (k : ℕ) → k < i → EntryIsPut (slice_index_or entries k None) (place_of k) new
  pub only : ChangesOnly 148 (place_of i) old new
