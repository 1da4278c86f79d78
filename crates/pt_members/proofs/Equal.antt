-- What `==` decides.
use Rattle.std.proofs.Common.{◌≡◌, List, Option, Bool, ◌==◌, sym, ap, ◌∙◌}
use Rattle.std.specs.Bool.{Decides}
use Rattle.std.specs.Option.{option_eq}
use Rattle.std.proofs.lemmas.Bool.Decides.{Decides-eqb}
use Rattle.std.specs.Cmp.Lexicographic.{pointwise}
use Rattle.pt_sector.specs.declared.address.Lba.{Lba}
use Rattle.pt_sector.specs.contracts.address.LbaPartialEq.TheImpl as lba_eq
use Rattle.pt_mbr.specs.declared.record.Record.{Record}
use Rattle.pt_mbr.specs.declared.ebr.Ebr.{Ebr}
use Rattle.pt_mbr.specs.contracts.ebr.EbrPartialEq.TheImpl as ebr_eq
use Rattle.pt_mbr.specs.contracts.record.RecordPartialEq.TheImpl as record_eq
use Rattle.pt_bsd.proofs.Equal.{also, decides_as, option_decides, list_decides, label_decides}
use Rattle.pt_members.specs.declared.layout.Labelled.{Labelled}
use Rattle.pt_members.specs.contracts.layout.LabelledPartialEq.TheImpl as labelled_eq

lba_decides : (a b : Lba) → Decides (lba_eq.eq-value.it a b) (a ≡ b)
lba_decides a b =
    decides_as (a.0 == b.0) (a.0 ≡ b.0) (a ≡ b) (Decides-eqb a.0 b.0) (λ h i. record { 0 = h i }) (λ e. ap (λ (x : Lba). x.0) e)

sizes_same : (a b : Record) → a ≡ b → a.size ≡ b.size
sizes_same a b e = ap (λ (x : Record). x.size) e

pub record_decides : (a b : Record) → Decides (record_eq.eq-value.it a b) (a ≡ b)
record_decides a b =
    decides_as (record_eq.eq-value.it a b) ((a.boot ≡ b.boot) × ((a.start_chs ≡ b.start_chs)
    × ((a.kind ≡ b.kind) × ((a.end_chs ≡ b.end_chs) × ((a.start ≡ b.start) × (a.size ≡ b.size)))))) (a ≡ b)
    (also (Decides-eqb a.boot b.boot) (also (list_decides Decides-eqb a.start_chs b.start_chs)
    (also (Decides-eqb a.kind b.kind) (also (list_decides Decides-eqb a.end_chs b.end_chs)
    (also (Decides-eqb a.start b.start) (Decides-eqb a.size b.size))))))
    (λ h i. record {
      boot = h.0 i;
      start_chs = h.1.0 i;
      kind = h.1.1.0 i;
      end_chs = h.1.1.1.0 i;
      start = h.1.1.1.1.0 i;
      size = h.1.1.1.1.1 i;
    })
    (λ e. (
      ap (λ (x : Record). x.boot) e,
      (
        ap (λ (x : Record). x.start_chs) e,
        (ap (λ (x : Record). x.kind) e, (ap (λ (x : Record). x.end_chs) e, (ap (λ (x : Record). x.start) e, sizes_same a b e))),
      ),
    ))

pub ebr_decides : (a b : Ebr) → Decides (ebr_eq.eq-value.it a b) (a ≡ b)
ebr_decides a b =
    decides_as (ebr_eq.eq-value.it a b) ((a.at.0 ≡ b.at.0) × ((a.logical ≡ b.logical) × (a.next ≡ b.next))) (a ≡ b)
    (also (Decides-eqb a.at.0 b.at.0) (also (option_decides record_decides a.logical b.logical) (option_decides lba_decides a.next b.next)))
    (λ h i. record { at = record { 0 = h.0 i }; logical = h.1.0 i; next = h.1.1 i })
    (λ e. (ap (λ (x : Ebr). x.at.0) e, (ap (λ (x : Ebr). x.logical) e, ap (λ (x : Ebr). x.next) e)))

pub labelled_decides : (a b : Labelled) → Decides (labelled_eq.eq-value.it a b) (a ≡ b)
labelled_decides a b =
    decides_as (labelled_eq.eq-value.it a b) ((a.number ≡ b.number) × (a.label ≡ b.label)) (a ≡ b)
    (also (Decides-eqb a.number b.number) (label_decides a.label b.label))
    (λ h i. record { number = h.0 i; label = h.1 i })
    (λ e. (ap (λ (x : Labelled). x.number) e, ap (λ (x : Labelled). x.label) e))

pub ebrs_decide : (xs ys : List Ebr) → Decides (pointwise ebr_eq.eq-value.it xs ys) (xs ≡ ys)
ebrs_decide = list_decides ebr_decides

pub labels_decide : (xs ys : List Labelled) → Decides (pointwise labelled_eq.eq-value.it xs ys) (xs ≡ ys)
labels_decide = list_decides labelled_decides

pub records_decide : (xs ys : List (Option Record)) → Decides (pointwise (option_eq record_eq.eq-value.it) xs ys) (xs ≡ ys)
records_decide = list_decides (option_decides record_decides)

pub shown : {A : Type 0} (r : Bool) (x y p q : List A) → Decides r (x ≡ y) → x ≡ p → y ≡ q → Decides r (p ≡ q)
shown r x y p q d e f = decides_as r (x ≡ y) (p ≡ q) d (λ h. sym e ∙ h ∙ f) (λ h. e ∙ h ∙ sym f)
