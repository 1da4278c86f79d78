-- The sectors that partitions take, place by place.
use Rattle.std.proofs.Common.{◌≡◌, ◌<◌, ◌≤◌, ◌+◌, ℕ, List, [], ◌∷◌, ◌++◌, length, get_or, take, Option, Some, None, sym, ap, ◌∙◌, arith}
use Rattle.std.proofs.Common.{append-nil}
use Rattle.std.specs.Prelude.{flat_map, option_map}
use Rattle.std.proofs.lemmas.List.{take_all, take_more}
use Rattle.std.proofs.lemmas.Grind.{flat_map-append}
use Rattle.pt_bsd.specs.declared.label.Label.{Label}
use Rattle.pt_gpt.specs.declared.entry.Entry.{Entry}
use Rattle.pt_mbr.specs.declared.record.Record.{Record}
use Rattle.pt_mbr.specs.declared.ebr.Ebr.{Ebr}
use Rattle.pt_members.specs.declared.member.Member.{Member}
use Rattle.pt_members.specs.Members.{record_member, entry_member, records_as, entries_as, logicals_as, parts_in, logical_at}
use Rattle.pt_members.proofs.ByPlace.{record_at, records_len, entry_at, entries_len, logical_at_from, logicals_len, parts_len}
use Rattle.pt_edit.specs.declared.space.Run.{Run}
use Rattle.pt_edit.specs.Space.{run_of, span_of, taken_by, spanned_by}

-- the places before one, and the one
one_more : (f : Option Member → List Run) (xs : List (Option Member)) (k : ℕ) (m : Option Member) (before after : List Run)
    → k < length xs → m ≡ get_or xs k None → before ≡ flat_map f (take k xs) → after ≡ before ++ f m
    → after ≡ flat_map f (take (k + 1) xs)
one_more f xs k m before after lt is so_far now =
    now
    ∙ (ap (λ (runs : List Run). runs ++ f m) so_far
    ∙ (ap (λ (o : Option Member). flat_map f (take k xs) ++ f o) is
    ∙ (ap (λ (runs : List Run). flat_map f (take k xs) ++ runs) (sym (append-nil (f (get_or xs k None))))
    ∙ (sym (flat_map-append f (take k xs) (get_or xs k None ∷ []))
    ∙ ap (flat_map f) (sym (take_more xs k None lt))))))

-- all of them
all_of : (f : Option Member → List Run) (xs : List (Option Member)) (k : ℕ) (runs : List Run) → length xs ≤ k
    → runs ≡ flat_map f (take k xs) → runs ≡ flat_map f xs
all_of f xs k runs past is = is ∙ ap (flat_map f) (take_all k xs past)

pub one_record : (rs : List (Option Record)) (k : ℕ) (m : Option Member) (before after : List Run) → k < length rs
    → m ≡ option_map (record_member 512 (1 + k)) (get_or rs k None) → before ≡ spanned_by (take k (records_as 512 1 rs))
    → after ≡ before ++ span_of m → after ≡ spanned_by (take (k + 1) (records_as 512 1 rs))
one_record rs k m before after lt is so_far now =
    one_more span_of (records_as 512 1 rs) k m before after (omega (arith, lt, records_len 512 1 rs))
    (is ∙ sym (record_at 512 1 k rs lt)) so_far now

pub all_records : (rs : List (Option Record)) (k : ℕ) (runs : List Run) → length rs ≡ 4 → 4 ≤ k
    → runs ≡ spanned_by (take k (records_as 512 1 rs)) → runs ≡ spanned_by (records_as 512 1 rs)
all_records rs k runs four past is =
    all_of span_of (records_as 512 1 rs) k runs (omega (arith, past, four, records_len 512 1 rs)) is

pub one_entry : (es : List (Option Entry)) (k : ℕ) (m : Option Member) (before after : List Run) → k < length es
    → m ≡ option_map (entry_member 512 (1 + k)) (get_or es k None) → before ≡ taken_by (take k (entries_as 512 1 es))
    → after ≡ before ++ run_of m → after ≡ taken_by (take (k + 1) (entries_as 512 1 es))
one_entry es k m before after lt is so_far now =
    one_more run_of (entries_as 512 1 es) k m before after (omega (arith, lt, entries_len 512 1 es))
    (is ∙ sym (entry_at 512 1 k es lt)) so_far now

pub all_entries : (es : List (Option Entry)) (k : ℕ) (runs : List Run) → length es ≤ k
    → runs ≡ taken_by (take k (entries_as 512 1 es)) → runs ≡ taken_by (entries_as 512 1 es)
all_entries es k runs past is = all_of run_of (entries_as 512 1 es) k runs (omega (arith, past, entries_len 512 1 es)) is

pub one_logical : (es : List Ebr) (k : ℕ) (m : Option Member) (before after : List Run) → k < length es
    → m ≡ logical_at 512 k es → before ≡ taken_by (take k (logicals_as 512 5 es))
    → after ≡ before ++ run_of m → after ≡ taken_by (take (k + 1) (logicals_as 512 5 es))
one_logical es k m before after lt is so_far now =
    one_more run_of (logicals_as 512 5 es) k m before after (omega (arith, lt, logicals_len 512 5 es))
    (is ∙ sym (logical_at_from 512 5 k es lt)) so_far now

pub all_logicals : (es : List Ebr) (k : ℕ) (runs : List Run) → length es ≤ k
    → runs ≡ taken_by (take k (logicals_as 512 5 es)) → runs ≡ taken_by (logicals_as 512 5 es)
all_logicals es k runs past is =
    all_of run_of (logicals_as 512 5 es) k runs (omega (arith, past, logicals_len 512 5 es)) is

pub one_part : (l : Label) (slice : Member) (k : ℕ) (m : Option Member) (before after : List Run) → k < length l.entries
    → m ≡ get_or (parts_in (Some l) slice) k None → before ≡ taken_by (take k (parts_in (Some l) slice))
    → after ≡ before ++ run_of m → after ≡ taken_by (take (k + 1) (parts_in (Some l) slice))
one_part l slice k m before after lt is so_far now =
    one_more run_of (parts_in (Some l) slice) k m before after (omega (arith, lt, parts_len l slice)) is so_far now

pub all_parts : (l : Label) (slice : Member) (k : ℕ) (runs : List Run) → length l.entries ≡ 8 → 8 ≤ k
    → runs ≡ taken_by (take k (parts_in (Some l) slice)) → runs ≡ taken_by (parts_in (Some l) slice)
all_parts l slice k runs counted past is =
    all_of run_of (parts_in (Some l) slice) k runs (omega (arith, past, counted, parts_len l slice)) is
