-- What is answered where a table has no text, and where no blocks are listed.
use Rattle.std.proofs.Common.{◌≡◌, ℕ, List, inr}
use Rattle.std.specs.Str.{IsUtf8}
use Rattle.pt_sector.specs.Sectors.{Sectors}
use Rattle.pt_replay.specs.Claims.{NoLayout}
use Rattle.pt_replay.specs.Tables.{Texts, TextFor, Frees, FreeFor}
use Rattle.pt_replay.specs.Wanted.{OfView, NoBuffers}
use Rattle.pt_replay.proofs.Saying.{viewed}
use Rattle.pt_replay.specs.declared.answers.Status.{Status}
use Rattle.pt_replay.specs.declared.answers.Status.TheVariants as status
use Rattle.pt_replay.specs.declared.answers.Reply.{Reply}
use Rattle.pt_replay.specs.declared.rows.FreeRow.{FreeRow}
use Rattle.pt_replay.specs.declared.view.View.{View}

module _ (b : ℕ) (v : View) (d : Sectors) where
  -- where there is no layout there is no text
  none_told : (device old new : List ℕ) → new ≡ old → (s : Status) (r : Reply) → NoLayout b v d s r → Texts b v d device old new s r
  none_told device old new same status.Done r is = absurd is
  none_told device old new same status.No r is = is
  none_told device old new same status.Usage r is = is
  none_told device old new same status.Refused r is = is
  none_told device old new same status.NoTable r is = (is, same)
  none_told device old new same status.Device r is = is
  none_told device old new same status.Memory r is = (is, same)
  none_told device old new same status.Want r is = (is, same)
  none_told device old new same status.Room r is = absurd is
  none_told device old new same status.WantOther r is = is

  pub no_text : (device old new : List ℕ) (s : Status) (r : Reply) → new ≡ old → IsUtf8 device
      → OfView b v NoBuffers (NoLayout b v d) s r → TextFor b v d device old new s r
  no_text device old new s r same utf8 is =
      inr (utf8, viewed NoBuffers (new ≡ old) (λ none. same) (none_told device old new same) s r is)

  -- where there is no layout no blocks are listed
  none_found : (old new : List FreeRow) → new ≡ old → (s : Status) (r : Reply) → NoLayout b v d s r → Frees b v d old new s r
  none_found old new same status.Done r is = absurd is
  none_found old new same status.No r is = is
  none_found old new same status.Usage r is = is
  none_found old new same status.Refused r is = is
  none_found old new same status.NoTable r is = (is, same)
  none_found old new same status.Device r is = is
  none_found old new same status.Memory r is = (is, same)
  none_found old new same status.Want r is = (is, same)
  none_found old new same status.Room r is = absurd is
  none_found old new same status.WantOther r is = is

  pub none_free : (old new : List FreeRow) (s : Status) (r : Reply) → new ≡ old → OfView b v NoBuffers (NoLayout b v d) s r
      → FreeFor b v d old new s r
  none_free old new s r same is = viewed NoBuffers (new ≡ old) (λ none. same) (none_found old new same) s r is
