pub use Rattle.pt_sector.specs.Sectors
pub use Rattle.pt_sector.specs.Device
pub use Rattle.pt_sector.specs.Overlays
pub use Rattle.pt_disks.specs.Stores
pub use Rattle.pt_recover.specs.Denotes
pub use Rattle.pt_members.specs.Members
pub use Rattle.pt_members.specs.Rows
pub use Rattle.pt_members.specs.Tables
pub use Rattle.pt_edit.specs.Free
pub use Rattle.pt_edit.specs.Space
pub use Rattle.pt_layout.specs.Sound
pub use Rattle.pt_layout.specs.Healthy
pub use Rattle.pt_apply.specs.Plans
pub use Rattle.pt_check.specs.Answers
pub use Rattle.pt_plan.specs.Batches
pub use Rattle.pt_plan.specs.Layouts
pub use Rattle.pt_carry.specs.Data as CarriedData
pub use Rattle.pt_carry.specs.Carries
pub use Rattle.pt_types.specs.Types
pub use Rattle.pt_types.specs.Listing
pub use Rattle.pt_tables.specs.Text
pub use Rattle.pt_tables.specs.Free as FreeTexts
pub use Rattle.pt_drafts.specs.Tables as Drafts
pub use Rattle.pt_set.specs.Layouts as DraftLayouts
pub use Rattle.pt_set.specs.Sets
pub use Rattle.pt_sector.specs.inner.ForFields
