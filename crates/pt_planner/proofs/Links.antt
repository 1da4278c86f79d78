-- The bytes of a link hold the low bits of its numbers, and a link whose numbers have no others leads on.
use Rattle.std.proofs.Common.{◌≡◌, ℕ, ◌-◌, ◌/◌, ◌%◌, ◌+◌, ◌<◌, ◌≢◌, List, [], ◌∷◌, ◌++◌, length, get_or, Option, Some, None, refl, sym}
use Rattle.std.proofs.Common.{ap, subst, ◌∙◌, arith, inl}
use Rattle.byteorder.specs.Endian.{little_bytes}
use Rattle.pt_sector.specs.declared.address.Lba.{Lba}
use Rattle.pt_mbr.specs.Changes.{Leads, LinksTo, FitsLink, reach_of}
use Rattle.pt_mbr.specs.Records.{record_bytes}
use Rattle.pt_mbr.specs.declared.ebr.Ebr.{Ebr}
use Rattle.pt_mbr.specs.declared.record.Record.{Record}
use Rattle.pt_cases.specs.Writes.{link_to}
use Rattle.pt_cases.specs.Unplanned.{LeadsOn}

low_0 : (x : ℕ) → x % 4294967296 % 256 ≡ x % 256
low_0 x = omega arith

low_1 : (x : ℕ) → x % 4294967296 / 256 % 256 ≡ x / 256 % 256
low_1 x = omega arith

low_2 : (x : ℕ) → x % 4294967296 / 65536 % 256 ≡ x / 65536 % 256
low_2 x = omega arith

low_3 : (x : ℕ) → x % 4294967296 / 16777216 % 256 ≡ x / 16777216 % 256
low_3 x = omega arith

low_bytes : (x : ℕ) → little_bytes 4 (x % 4294967296) ≡ little_bytes 4 x
low_bytes x = λ i. low_0 x i ∷ low_1 x i ∷ low_2 x i ∷ low_3 x i ∷ []

pub link_low : (first : ℕ) (rest : List Ebr) (z : Ebr) (start size : ℕ) → 0 < length rest
    → start ≡ ((get_or rest 0 z).at.0 - first) % 4294967296 → size ≡ reach_of (get_or rest 0 z).logical % 4294967296
    → record_bytes
    (Some (record { boot = 0; start_chs = 254 ∷ 255 ∷ 255 ∷ []; kind = 5; end_chs = 254 ∷ 255 ∷ 255 ∷ []; start = start; size = size }))
    ≡ record_bytes (link_to first rest)
unfolding record_bytes
link_low first [] z start size some low cut = absurd (omega (arith, some))
link_low first (e ∷ es) z start size some low cut =
    let starts = ap (little_bytes 4) low ∙ low_bytes (e.at.0 - first) in
    let sizes = ap (little_bytes 4) cut ∙ low_bytes (reach_of e.logical) in
    λ i. (0 ∷ 254 ∷ 255 ∷ 255 ∷ []) ++ (5 ∷ 254 ∷ 255 ∷ 255 ∷ []) ++ starts i ++ sizes i

-- a link from these numbers
abbrev pub linking : ℕ → ℕ → Record
linking start size =
    record { boot = 0; start_chs = 254 ∷ 255 ∷ 255 ∷ []; kind = 5; end_chs = 254 ∷ 255 ∷ 255 ∷ []; start = start; size = size }

-- with the low bits of numbers that have 32, it leads there
leads_there : (first : ℕ) (e : Ebr) (start size : ℕ) → FitsLink first e → start ≡ (e.at.0 - first) % 4294967296
    → size ≡ reach_of e.logical % 4294967296 → Leads first e.at (linking start size)
leads_there first e start size fits low cut = record { boot = inl refl; extended = inl refl; sized = sized; there = there } where
  sized : size ≢ 0
  sized none = absurd (let some = fits.some in let few = fits.size in omega (arith, none, cut, some, few))

  there : e.at.0 ≡ first + start
  there = let above = fits.above in let near = fits.start in omega (arith, low, above, near)

-- it leads to the first of these, where that is the next one
pub link_leads : (first : ℕ) (rest : List Ebr) (z : Ebr) (start size : ℕ) → 0 < length rest
    → start ≡ ((get_or rest 0 z).at.0 - first) % 4294967296 → size ≡ reach_of (get_or rest 0 z).logical % 4294967296
    → (next : Option Lba) → LeadsOn first next rest → LinksTo first next (Some (linking start size))
link_leads first [] z start size some low cut next on = absurd (omega (arith, some))
link_leads first (e ∷ es) z start size some low cut next on =
    subst (λ (o : Option Lba). LinksTo first o (Some (linking start size))) (sym on.0) (leads_there first e start size on.1 low cut)

-- where there is no next one, no link leads on
pub none_leads : (first : ℕ) (rest : List Ebr) → length rest ≡ 0 → (next : Option Lba) → LeadsOn first next rest → LinksTo first next None
none_leads first [] none next on = subst (λ (o : Option Lba). LinksTo first o None) (sym on) tt
none_leads first (e ∷ es) none next on = absurd (omega (arith, none))
