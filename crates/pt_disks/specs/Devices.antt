-- Block devices, and what uses them.
use Rattle.pt_disks.specs.declared.device.NoDevice.{NoDevice}
use Rattle.pt_disks.specs.declared.device.NoDevice.TheVariants.{InUse}

-- the device is in use
abbrev pub TellsUse : NoDevice → Type 0
TellsUse (InUse text) = Unit {0}
TellsUse _ = ⊥
