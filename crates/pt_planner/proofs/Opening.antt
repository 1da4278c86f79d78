-- What stands in sector 1 of a disk without a primary copy while that is written.
use Rattle.std.proofs.Common.{◌≡◌, ◌∙◌, List, ℕ, length, Option, Some, ap, sym, subst}
use Rattle.pt_sector.specs.Sectors.{Sectors, sector}
use Rattle.pt_gpt.specs.Copies.{HeaderBytes, header_place}
use Rattle.pt_gpt.specs.declared.header.Header.{Header}
use Rattle.pt_gpt.specs.declared.table.Side.TheVariants.{Backup}
use Rattle.pt_members.specs.declared.layout.Layout.{Layout}
use Rattle.pt_cases.specs.Kept.{IsBridge}
use Rattle.pt_planner.specs.inner.Kept.{IsOver}

-- what a bridge over the last sector is, where the disk denotes a layout
pub opens : (b n : ℕ) (d : Sectors) (o : Option Layout) (l : Layout) (last bytes : List ℕ) → o ≡ Some l → n ≡ length d
    → last ≡ sector d (header_place Backup n)
    → ((h : Header) → HeaderBytes b h last → IsBridge b n last bytes) → IsOver b d o bytes
opens b n d o l last bytes some count is over = subst (λ (x : Option Layout). IsOver b d x bytes) (sym some) (λ h header.
    let at : last ≡ sector d (header_place Backup (length d)) = is ∙ ap (λ (m : ℕ). sector d (header_place Backup m)) count in
    subst (λ (m : ℕ). IsBridge b m (sector d (header_place Backup (length d))) bytes) count
    (subst (λ (v : List ℕ). IsBridge b n v bytes) at (over h (subst (HeaderBytes b h) (sym at) header))))
