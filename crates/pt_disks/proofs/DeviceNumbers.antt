-- Numbers of devices, from where their text is cut.
use Rattle.std.proofs.Common.{◌≡◌, ◌≢◌, ◌<◌, ◌^◌, ℕ, List, ◌∷◌, ◌++◌, length, get_or, Option, Some, None, Bor, arith, lit<, length-append}
use Rattle.std.proofs.Common.{IfNone}
use Rattle.std.specs.Fmt.{decimal}
use Rattle.std.proofs.Math.Seq.{get_or-append_seam}
use Rattle.std.proofs.lemmas.Str.Pattern.{IsSplitOnceResult, split_after, split_parts}
use Rattle.pt_path.proofs.Numbers.{lacks}
use Rattle.pt_disks.specs.inner.Devices.{IsDeviceNumber}
use Rattle.pt_disks.specs.declared.numbers.DeviceNumber.{DeviceNumber}

-- what holds anyway is said of none
pub if_none : {X P : Type 0} (found : Option X) → P → IfNone found P
if_none None p = p
if_none (Some x) p = tt

no_colon : (n i : ℕ) → n < 2 ^ 64 → i < length (decimal n) → get_or (decimal n) i 0 ≢ 58
no_colon n i fits within = lacks n 58 i fits (λ h. omega (arith, h.0, h.1)) within

-- a text without a colon is no number
pub no_number : (text : List ℕ) → IsSplitOnceResult 58 text None → (d : DeviceNumber) → ¬ IsDeviceNumber text d
no_number text h d is =
    let within : length (decimal d.major) < length text =
    rw is.written (let len = length-append (decimal d.major) (58 ∷ decimal d.minor) in omega (arith, len)) in
    split_parts 58 text None h (lit< tt) (length (decimal d.major)) within
    (rw is.written (get_or-append_seam (decimal d.major) 58 (decimal d.minor) 0))

-- the parts of a number's text
pub number_parts : (text : List ℕ) (major minor : Bor (List ℕ)) → IsSplitOnceResult 58 text (Some (major, minor))
    → (d : DeviceNumber) → IsDeviceNumber text d → (major.now ≡ decimal d.major) × (minor.now ≡ decimal d.minor)
number_parts text major minor h d is =
    split_after 58 text (decimal d.major) (decimal d.minor) (Some (major, minor)) h (lit< tt) is.written
    (λ i. no_colon d.major i is.major_fits)
