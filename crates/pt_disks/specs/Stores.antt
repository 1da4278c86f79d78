-- A disk over a store of bytes.
use Rattle.std.specs.Prelude.{ℕ, zero, suc, ◌+◌, List, [], ◌∷◌, ◌++◌, length, take, drop, ◌≡◌, ◌⊎◌, ◌*◌, ◌/◌, ◌<◌, map, Vec}
use Rattle.pt_sector.specs.Sectors.{Sectors, Writes, MayHold}
use Rattle.pt_sector.specs.Device.{Told, Moment, told_of}
use Rattle.std.specs.declared.alloc.Global.{Global}

-- ## Bytes as sectors.

-- the bytes with v in their place from an offset on
abbrev pub put_at : ℕ → List ℕ → List ℕ → List ℕ
put_at at v bytes = take at bytes ++ (v ++ drop (at + length v) bytes)

-- the first n sectors of b bytes: sector k is the bytes from k * b up to (k + 1) * b
abbrev pub sectors_of : ℕ → ℕ → List ℕ → Sectors
sectors_of b zero bytes = []
sectors_of b (suc n) bytes = take b bytes ∷ sectors_of b n (drop b bytes)

-- ## What a store of bytes tells of its content, and what its calls do.

-- the bytes that were durable, and the writes that were pending: offsets and bytes
abbrev pub ByteMoment : Type 0
ByteMoment = List ℕ × Writes

-- what a store tells of its content
pub record ToldBytes : Type 0 where
  pub seen : List ℕ
  pub durable : List ℕ
  pub pending : Writes
  -- before each write and sync so far
  pub past : List ByteMoment

-- a store that tells nothing
abbrev pub untold_bytes : ToldBytes
untold_bytes = record { seen = []; durable = []; pending = []; past = [] }

-- offset at is where a block of b bytes begins
abbrev pub IsBlock : ℕ → ℕ → Type 0
IsBlock b at = (k : ℕ) × (at ≡ k * b)

-- a write or sync passes
abbrev pub Passes : ToldBytes → ToldBytes → Type 0
Passes old new = new.past ≡ old.past ++ (old.durable, old.pending) ∷ []

-- a write that was done: durable at once, or the newest pending one
pub record Put (old new : ToldBytes) (at : ℕ) (v : List ℕ) : Type 0 where
  pub seen : new.seen ≡ put_at at v old.seen
  pub takes : ((new.durable ≡ put_at at v old.durable) × (new.pending ≡ old.pending))
      ⊎ ((new.durable ≡ old.durable) × (new.pending ≡ old.pending ++ (at, v) ∷ []))
  pub time : Passes old new

-- a write that failed: nothing, or pending and the bytes as before or as written
pub record FailedPut (old new : ToldBytes) (at : ℕ) (v : List ℕ) : Type 0 where
  pub durable : new.durable ≡ old.durable
  pub kept : ((new.seen ≡ old.seen) × (new.pending ≡ old.pending))
      ⊎ (((new.seen ≡ old.seen) ⊎ (new.seen ≡ put_at at v old.seen)) × (new.pending ≡ old.pending ++ (at, v) ∷ []))
  pub time : Passes old new

-- a sync that was done
pub record Synced (old new : ToldBytes) : Type 0 where
  pub seen : new.seen ≡ old.seen
  pub durable : new.durable ≡ old.seen
  pub pending : new.pending ≡ []
  pub time : Passes old new

-- the writes of blocks as those of sectors
abbrev pub writes_of : ℕ → Writes → Writes
writes_of b ws = map (λ (w : ℕ × List ℕ). (w.0 / b, w.1)) ws

abbrev pub moments_of : ℕ → ℕ → List ByteMoment → List Moment
moments_of b n past = map (λ (m : ByteMoment). (sectors_of b n m.0, writes_of b m.1)) past

-- what a disk of n sectors of b bytes tells, whose bytes are those of a store
abbrev pub in_sectors : ℕ → ℕ → ToldBytes → Told
in_sectors b n told =
    told_of (sectors_of b n told.seen) (sectors_of b n told.durable) (writes_of b told.pending) (moments_of b n told.past)

-- a sync that failed: any block may be durable that was pending, and none holds what it could not hold before
pub record FailedSync (b : ℕ) (old new : ToldBytes) : Type 0 where
  pub seen : new.seen ≡ old.seen
  pub no_more : (n k : ℕ) (v : List ℕ) → k < n
      → MayHold (sectors_of b n new.durable) (writes_of b new.pending) k v
      → MayHold (sectors_of b n old.durable) (writes_of b old.pending) k v
  pub time : Passes old new

-- ## What bytes in memory tell.

abbrev pub byte_moments : List (Vec ℕ Global) → List ByteMoment
byte_moments past = map (λ (v : Vec ℕ Global). (v.items, [])) past

-- all is durable, and nothing pending
abbrev pub mem_bytes : List ℕ → List (Vec ℕ Global) → ToldBytes
mem_bytes now past = record { seen = now; durable = now; pending = []; past = byte_moments past }

-- ## A disk that tells nothing of its content.

abbrev pub untold : Told
untold = told_of [] [] [] []
