-- What is printed of a file or a device that isn't opened.
use Rattle.std.specs.Prelude.{ℕ, List, ◌++◌, codes, decimal, string_bytes}
use Rattle.pt_disks.specs.declared.open.OpenError.{OpenError}
use Rattle.pt_disks.specs.declared.open.OpenError.TheVariants as open_error
use Rattle.pt_disks.specs.declared.device.NoDevice.{NoDevice}
use Rattle.pt_disks.specs.declared.device.NoDevice.TheVariants as device
use Rattle.pt_disks.specs.declared.uses.Purpose.{Purpose}
use Rattle.pt_disks.specs.declared.uses.Purpose.TheVariants as purpose

abbrev pub open_error_sentence : OpenError → List ℕ
open_error_sentence open_error.NoFile = codes "the file can't be opened, or isn't a plain one"
open_error_sentence open_error.Locked = codes "the file is locked by another program"

abbrev pub no_device_sentence : NoDevice → List ℕ
no_device_sentence device.Unopened = codes "the device can't be opened"
no_device_sentence device.NotBlock = codes "it isn't a block device"
no_device_sentence (device.SectorSize bytes) = codes "the device's sectors have " ++ decimal bytes ++ codes " bytes"
no_device_sentence device.Locked = codes "the device is locked by another program"
no_device_sentence (device.InUse text) = codes "the device is in use: " ++ string_bytes text
no_device_sentence device.Memory = codes "there is no memory"

-- what something is used for
abbrev pub purpose_text : Purpose → List ℕ
purpose_text (purpose.Mount mount) = mount.source.now ++ (codes " is mounted on " ++ mount.place.now)
purpose_text (purpose.Swap path) = path.now ++ codes " is swap"
