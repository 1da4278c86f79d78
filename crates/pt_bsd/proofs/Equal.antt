-- What `==` of labels decides.
use Rattle.std.proofs.Common.{◌≡◌, List, Option, Some, None, Bool, ◌&&◌, refl, ap}
use Rattle.std.specs.Bool.{Decides}
use Rattle.std.specs.Option.{option_eq}
use Rattle.std.proofs.lemmas.Bool.Decides.{Decides-eqb, Decides-and}
use Rattle.std.specs.Cmp.Lexicographic.{pointwise}
use Rattle.std.proofs.lemmas.Slice.Eq.{slice_eq-Decides}
use Rattle.pt_bsd.specs.declared.label.Label.{Label}
use Rattle.pt_bsd.specs.declared.label.LabelEntry.{LabelEntry}
use Rattle.pt_bsd.specs.contracts.label.LabelPartialEq.TheImpl as label_eq
use Rattle.pt_bsd.specs.contracts.label.LabelEntryPartialEq.TheImpl as label_entry_eq

pub also : {p q : Bool} {P Q : Type 0} → Decides p P → Decides q Q → Decides (p && q) (P × Q)
also {p = p} {q = q} d e = Decides-and p q d e

pub decides_as : (r : Bool) (P Q : Type 0) → Decides r P → (P → Q) → (Q → P) → Decides r Q
decides_as r P Q d to from = (λ t. to (d.0 t), λ h. d.1 (from h))

pub option_decides : {A : Type 0} {E : A → A → Bool} → ((a b : A) → Decides (E a b) (a ≡ b)) → (o p : Option A)
    → Decides (option_eq E o p) (o ≡ p)
option_decides decides None None = (λ t. refl, λ e. refl)
option_decides decides None (Some b) = (λ t. absurd cc, λ e. absurd cc)
option_decides decides (Some a) None = (λ t. absurd cc, λ e. absurd cc)
option_decides decides (Some a) (Some b) = (λ t. ap (λ x. Some x) ((decides a b).0 t), λ e. (decides a b).1 cc)

pub list_decides : {A : Type 0} {E : A → A → Bool} → ((a b : A) → Decides (E a b) (a ≡ b)) → (xs ys : List A)
    → Decides (pointwise E xs ys) (xs ≡ ys)
list_decides {E = E} decides xs ys = slice_eq-Decides decides xs ys (pointwise E xs ys) refl

pub label_entry_decides : (a b : LabelEntry) → Decides (label_entry_eq.eq-value.it a b) (a ≡ b)
label_entry_decides a b =
    decides_as (label_entry_eq.eq-value.it a b) ((a.size ≡ b.size)
    × ((a.offset ≡ b.offset) × ((a.fragment ≡ b.fragment) × ((a.fstype ≡ b.fstype) × ((a.frag ≡ b.frag) × (a.cpg ≡ b.cpg)))))) (a ≡ b)
    (also (Decides-eqb a.size b.size) (also (Decides-eqb a.offset b.offset)
    (also (Decides-eqb a.fragment b.fragment) (also (Decides-eqb a.fstype b.fstype)
    (also (Decides-eqb a.frag b.frag) (Decides-eqb a.cpg b.cpg))))))
    (λ h i. record {
      size = h.0 i;
      offset = h.1.0 i;
      fragment = h.1.1.0 i;
      fstype = h.1.1.1.0 i;
      frag = h.1.1.1.1.0 i;
      cpg = h.1.1.1.1.1 i;
    })
    (λ e. (
      ap (λ (x : LabelEntry). x.size) e,
      (
        ap (λ (x : LabelEntry). x.offset) e,
        (
          ap (λ (x : LabelEntry). x.fragment) e,
          (
            ap (λ (x : LabelEntry). x.fstype) e,
            (ap (λ (x : LabelEntry). x.frag) e, ap (λ (x : LabelEntry). x.cpg) e),
          ),
        ),
      ),
    ))

pub label_decides : (a b : Label) → Decides (label_eq.eq-value.it a b) (a ≡ b)
label_decides a b =
    decides_as (label_eq.eq-value.it a b) ((a.kind ≡ b.kind) × ((a.subtype ≡ b.subtype)
    × ((a.type_name ≡ b.type_name) × ((a.pack_name ≡ b.pack_name)
    × ((a.geometry ≡ b.geometry) × ((a.unit ≡ b.unit) × ((a.kept ≡ b.kept)
    × ((a.bbsize ≡ b.bbsize) × ((a.sbsize ≡ b.sbsize) × (a.entries ≡ b.entries)))))))))) (a ≡ b)
    (also (Decides-eqb a.kind b.kind) (also (Decides-eqb a.subtype b.subtype)
    (also (list_decides Decides-eqb a.type_name b.type_name) (also (list_decides Decides-eqb a.pack_name b.pack_name)
    (also (list_decides Decides-eqb a.geometry b.geometry) (also (Decides-eqb a.unit b.unit)
    (also (list_decides Decides-eqb a.kept b.kept) (also (Decides-eqb a.bbsize b.bbsize)
    (also (Decides-eqb a.sbsize b.sbsize) (list_decides (option_decides label_entry_decides) a.entries b.entries))))))))))
    (λ h i. record {
      kind = h.0 i;
      subtype = h.1.0 i;
      type_name = h.1.1.0 i;
      pack_name = h.1.1.1.0 i;
      geometry = h.1.1.1.1.0 i;
      unit = h.1.1.1.1.1.0 i;
      kept = h.1.1.1.1.1.1.0 i;
      bbsize = h.1.1.1.1.1.1.1.0 i;
      sbsize = h.1.1.1.1.1.1.1.1.0 i;
      entries =
          h.1.1.1.1.1.1.1.1.1 i;
    })
    (λ e. (
      ap (λ (x : Label). x.kind) e,
      (
        ap (λ (x : Label). x.subtype) e,
        (
          ap (λ (x : Label). x.type_name) e,
          (
            ap (λ (x : Label). x.pack_name) e,
            (
              ap (λ (x : Label). x.geometry) e,
              (
                ap (λ (x : Label). x.unit) e,
                (
                  ap (λ (x : Label). x.kept) e,
                  (
                    ap (λ (x : Label). x.bbsize) e,
                    (ap (λ (x : Label). x.sbsize) e, ap (λ (x : Label). x.entries) e),
                  ),
                ),
              ),
            ),
          ),
        ),
      ),
    ))
