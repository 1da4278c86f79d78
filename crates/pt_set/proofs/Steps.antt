-- Lists that a loop looks through from place k on.
use Rattle.std.proofs.Common.{◌≡◌, ◌∙◌, ℕ, ◌+◌, ◌<◌, ◌≤◌, List, length, drop, get_or, ap, sym, arith, [], ◌∷◌, ◌++◌}
use Rattle.std.proofs.Common.{append_assoc, append-nil, Bool, true, false, Option, Some, None}
use Rattle.std.specs.Prelude.{◌&&◌, if◌then◌else◌, nat_eq, nat_lt}
use Rattle.std.proofs.lemmas.Bool.Decides.{nat_tests}
use Rattle.std.proofs.lemmas.List.{drop_more, drop_all}
use Rattle.pt_mbr.specs.Chain.{lba}
use Rattle.pt_sector.specs.declared.address.Lba.{Lba}
use Rattle.pt_mbr.specs.declared.ebr.Ebr.{Ebr}
use Rattle.pt_mbr.specs.declared.record.Record.{Record}
use Rattle.pt_set.specs.declared.past.Logical.{Logical}
use Rattle.pt_set.specs.Pasts.{kept_at, starts_at}
use Rattle.pt_set.specs.Chains.{chain_of, logical_in, next_of, rises}

-- ## The logical partition that started in a sector.

kept_cut : (ls : List Logical) (k start : ℕ) (z : Logical) → k < length ls
    → kept_at (drop k ls) start ≡ (if starts_at (get_or ls k z) start then Some (get_or ls k z).at else kept_at (drop (k + 1) ls) start)
unfolding kept_at
kept_cut ls k start z lt = ap (λ (l : List Logical). kept_at l start) (drop_more ls k z lt)

pub kept_here : (ls : List Logical) (k start : ℕ) (z : Logical) → k < length ls → starts_at (get_or ls k z) start ≡ true
    → kept_at (drop k ls) start ≡ Some (get_or ls k z).at
kept_here ls k start z lt is =
    kept_cut ls k start z lt ∙ ap (λ (b : Bool). if b then Some (get_or ls k z).at else kept_at (drop (k + 1) ls) start) is

pub kept_next : (ls : List Logical) (k start : ℕ) (z : Logical) → k < length ls → starts_at (get_or ls k z) start ≡ false
    → kept_at (drop k ls) start ≡ kept_at (drop (k + 1) ls) start
kept_next ls k start z lt is =
    kept_cut ls k start z lt ∙ ap (λ (b : Bool). if b then Some (get_or ls k z).at else kept_at (drop (k + 1) ls) start) is

pub kept_end : (ls : List Logical) (k start : ℕ) → length ls ≤ k → kept_at (drop k ls) start ≡ None
unfolding kept_at
kept_end ls k start past = ap (λ (l : List Logical). kept_at l start) (drop_all k ls past)

-- ## The logical partition whose record stands in a sector.

logical_cut : (ls : List Logical) (k s : ℕ) (z : Logical) → k < length ls
    → logical_in (drop k ls) s
    ≡ (if nat_eq (get_or ls k z).at s then Some (get_or ls k z).partition else logical_in (drop (k + 1) ls) s)
unfolding logical_in
logical_cut ls k s z lt = ap (λ (l : List Logical). logical_in l s) (drop_more ls k z lt)

pub logical_here : (ls : List Logical) (k s : ℕ) (z : Logical) → k < length ls → nat_eq (get_or ls k z).at s ≡ true
    → logical_in (drop k ls) s ≡ Some (get_or ls k z).partition
logical_here ls k s z lt is =
    logical_cut ls k s z lt ∙ ap (λ (b : Bool). if b then Some (get_or ls k z).partition else logical_in (drop (k + 1) ls) s) is

pub logical_next : (ls : List Logical) (k s : ℕ) (z : Logical) → k < length ls → nat_eq (get_or ls k z).at s ≡ false
    → logical_in (drop k ls) s ≡ logical_in (drop (k + 1) ls) s
logical_next ls k s z lt is =
    logical_cut ls k s z lt ∙ ap (λ (b : Bool). if b then Some (get_or ls k z).partition else logical_in (drop (k + 1) ls) s) is

pub logical_end : (ls : List Logical) (k s : ℕ) → length ls ≤ k → logical_in (drop k ls) s ≡ None
unfolding logical_in
logical_end ls k s past = ap (λ (l : List Logical). logical_in l s) (drop_all k ls past)

-- ## Sectors that rise.

rises_cut : (ss : List ℕ) (last k z : ℕ) → k < length ss
    → rises last (drop k ss) ≡ (nat_lt last (get_or ss k z) && rises (get_or ss k z) (drop (k + 1) ss))
unfolding rises
rises_cut ss last k z lt = ap (λ (l : List ℕ). rises last l) (drop_more ss k z lt)

not_above : (a b : ℕ) → b ≤ a → nat_lt a b ≡ false
not_above a b le = grind (arith, nat_tests)

pub rises_here : (ss : List ℕ) (last k z : ℕ) → k < length ss → get_or ss k z ≤ last → rises last (drop k ss) ≡ false
rises_here ss last k z lt le =
    rises_cut ss last k z lt ∙ ap (λ (b : Bool). b && rises (get_or ss k z) (drop (k + 1) ss)) (not_above last (get_or ss k z) le)

pub rises_next : (ss : List ℕ) (last k z : ℕ) → k < length ss → nat_lt last (get_or ss k z) ≡ true
    → rises last (drop k ss) ≡ rises (get_or ss k z) (drop (k + 1) ss)
rises_next ss last k z lt is =
    rises_cut ss last k z lt ∙ ap (λ (b : Bool). b && rises (get_or ss k z) (drop (k + 1) ss)) is

pub rises_end : (ss : List ℕ) (last k : ℕ) → length ss ≤ k → rises last (drop k ss) ≡ true
unfolding rises
rises_end ss last k past = ap (λ (l : List ℕ). rises last l) (drop_all k ss past)

-- ## A chain.

pub chain_next : (ls : List Logical) (ss : List ℕ) (k z : ℕ) → k < length ss
    → chain_of ls (drop k ss)
    ≡ record { at = lba (get_or ss k z); logical = logical_in ls (get_or ss k z); next = next_of (drop (k + 1) ss) }
    ∷ chain_of ls (drop (k + 1) ss)
unfolding chain_of
chain_next ls ss k z lt = ap (λ (l : List ℕ). chain_of ls l) (drop_more ss k z lt)

pub chain_end : (ls : List Logical) (ss : List ℕ) (k : ℕ) → length ss ≤ k → chain_of ls (drop k ss) ≡ []
unfolding chain_of
chain_end ls ss k past = ap (λ (l : List ℕ). chain_of ls l) (drop_all k ss past)

-- one more extended boot record comes to those before it
module _ (ls : List Logical) (ss : List ℕ) (k : ℕ) where
  rest : List Ebr
  rest = chain_of ls (drop (k + 1) ss)

  one : Option Record → Option Lba → Ebr
  one logical link = record { at = lba (get_or ss k 0); logical = logical; next = link }

  pub chain_pushed : (made more : List Ebr) (logical : Option Record) (link : Option Lba) → k < length ss
      → made ++ chain_of ls (drop k ss) ≡ chain_of ls ss
      → more ≡ made ++ record { at = lba (get_or ss k 0); logical = logical; next = link } ∷ []
      → logical ≡ logical_in ls (get_or ss k 0) → link ≡ next_of (drop (k + 1) ss)
      → more ++ chain_of ls (drop (k + 1) ss) ≡ chain_of ls ss
  unfolding rest one
  chain_pushed made more logical link lt so pushed is links =
      ap (λ (x : List Ebr). x ++ rest) pushed
      ∙ append_assoc made (one logical link ∷ []) rest
      ∙ ap (λ (x : Option Record). made ++ one x link ∷ rest) is
      ∙ ap (λ (x : Option Lba). made ++ one (logical_in ls (get_or ss k 0)) x ∷ rest) links
      ∙ ap (λ (x : List Ebr). made ++ x) (sym (chain_next ls ss k 0 lt))
      ∙ so

pub chain_whole : (ls : List Logical) (ss : List ℕ) (k : ℕ) (made : List Ebr) → length ss ≤ k
    → made ++ chain_of ls (drop k ss) ≡ chain_of ls ss → made ≡ chain_of ls ss
chain_whole ls ss k made past so =
    sym (append-nil made) ∙ ap (λ (x : List Ebr). made ++ x) (sym (chain_end ls ss k past)) ∙ so
