use Rattle.std.proofs.Common.{List, ℕ, ◌∷◌, ◌∙◌, ap, subst}
use Rattle.pt_disks.specs.inner.Devices.{IsDeviceNumber, parts, IsSourceIn}
use Rattle.pt_disks.proofs.DeviceNumbers.{if_none}
use Rattle.pt_disks.proofs.Parts.{third, behind_fifth}
use Rattle.pt_disks.proofs.uses.mount_of.Goals as goal

pub returns-in_err-device-clause-none : goal.returns-in_err-device-clause-none
returns-in_err-device-clause-none c = if_none c.from_residual-in_err-device.result (λ m is.
    let at = third (parts c.args.line.now) (parts c.in_ok-number.rest.now) c.in_ok-number.number.now
    (c.in_ok-rest.ensures.some ∙ c.in_ok-number.ensures.some) in
    c.in_err-device.ensures.none m.device (subst (λ (text : List ℕ). IsDeviceNumber text m.device) at is.device))

pub returns-in_err-source-clause-none : goal.returns-in_err-source-clause-none
returns-in_err-source-clause-none c = if_none c.from_residual-in_err-source.result (λ m is.
    let from_third =
    c.in_ok-rest.ensures.some
    ∙ (c.in_ok-number.ensures.some
    ∙ ap (λ (ps : List (List ℕ)). c.in_ok-number.number.now ∷ ps)
    (c.in_ok-rest-2.ensures.some ∙ ap (λ (ps : List (List ℕ)). c.in_ok-rest-2.field-0-0.now ∷ ps) c.in_ok-place.ensures.some)) in
    let at = behind_fifth (parts c.args.line.now) _ _ _ _ from_third in
    c.in_err-source.ensures.none m.source.now (subst (λ (ps : List (List ℕ)). IsSourceIn ps m.source.now) at is.source))
