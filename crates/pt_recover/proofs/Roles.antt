-- Which bytes say the same in each role of a sector.
use Rattle.std.proofs.Common.{◌≡◌, ◌<◌, ◌≤◌, ℕ, ◌+◌, ◌-◌, ◌*◌, List, Option, Some, None, refl, sym, ap, ◌∙◌, subst, arith}
use Rattle.std.proofs.Common.{take, drop, inl, inr, Bool, true, false, IsTrue, length}
use Rattle.std.proofs.lemmas.List.{take-take, drop-take, take_all}
use Rattle.std.specs.Prelude.{◌⊎◌, slice_range}
use Rattle.pt_sector.specs.Sectors.{Sectors, sector, number_at}
use Rattle.pt_sector.specs.declared.address.Lba.{Lba}
use Rattle.pt_mbr.specs.Records.{AreRecords, RecordIs}
use Rattle.pt_mbr.specs.Chain.{EbrBytes, NextIs}
use Rattle.pt_mbr.specs.declared.record.Record.{Record}
use Rattle.pt_mbr.specs.declared.mbr.Mbr.{Mbr}
use Rattle.pt_mbr.specs.declared.ebr.Ebr.{Ebr}
use Rattle.pt_mbr.proofs.Terms.{records_are_one, record_is_one}
use Rattle.pt_gpt.specs.Copies.{HeaderBytes, IsHeaderFault}
use Rattle.pt_gpt.specs.declared.header.Header.{Header}
use Rattle.pt_gpt.specs.declared.error.CopyError.{CopyError}
use Rattle.pt_gpt.proofs.Terms.{no_header_lem}
use Rattle.pt_bsd.specs.Labels.{LabelBytes, HasMagic, HasSum, HasRaw, HasLabelFields, IsEntry, entry_of, counted_in}
use Rattle.pt_bsd.specs.declared.label.Label.{Label}
use Rattle.pt_bsd.specs.declared.label.LabelEntry.{LabelEntry}
use Rattle.pt_recover.specs.Denotes.{IsMbrDisk, RecordsAre}
use Rattle.pt_recover.specs.Alike.{SameHeads, SameEbrs, SameLabels, SameHeaders, SaysSame, IsCounted, IsAlike}

-- ## Sector 0.

pub heads_ok : (x y : List ℕ) (m n : Mbr) → RecordsAre x (Some m) → RecordsAre y (Some n) → m.records ≡ n.records → SameHeads x y
heads_ok x y m n p q same = record {
  plain = (λ is. q.0, λ is. p.0);
  records = λ is k. (
    λ are. subst (λ (r : List (Option Record)). AreRecords r y)
        (sym (records_are_one k m.records x are p.1 ∙ same)) q.1,
    λ are. subst (λ (r : List (Option Record)). AreRecords r x)
        (sym (records_are_one k n.records y are q.1 ∙ sym same)) p.1,
  );
}

-- ## Extended boot records.

next_moves : (x y : List ℕ) (first : ℕ) (o p : Option Lba) → NextIs 0 o x → NextIs 0 o y → NextIs first p x → NextIs first p y
next_moves x y first None None i j k = j
next_moves x y first None (Some b) i j k = absurd (i k.0)
next_moves x y first (Some a) None i j k = absurd (k i.0)
next_moves x y first (Some a) (Some b) i j k = (j.0, omega (arith, i.1, j.1, k.1))

-- what is one of them in x is it in y too, where both are this one
ebr_moves : (x y : List ℕ) (a : Lba) (e : Ebr) → EbrBytes 0 a e x → EbrBytes 0 a e y → (first : ℕ) (at : Lba) (f : Ebr)
    → EbrBytes first at f x → EbrBytes first at f y
ebr_moves x y a e p q first at f is = record {
  signature = q.signature;
  boots = q.boots;
  zeros = q.zeros;
  logical_kind = q.logical_kind;
  link_kind = q.link_kind;
  place = is.place;
  logical = subst (λ (r : Option Record). RecordIs r 446 y) (record_is_one e.logical f.logical 446 x p.logical is.logical) q.logical;
  next = next_moves x y first e.next f.next p.next q.next is.next;
}

pub ebrs_ok : (x y : List ℕ) (a : Lba) (e f : Ebr) → EbrBytes 0 a e x → EbrBytes 0 a f y → e ≡ f → SameEbrs x y
ebrs_ok x y a e f p q same =
    let there : EbrBytes 0 a e y = subst (λ (z : Ebr). EbrBytes 0 a z y) (sym same) q in
    λ first at g. (ebr_moves x y a e p there first at g, ebr_moves y x a e there p first at g)

-- ## What stands in the first bytes.

-- y has the first bytes of x, so many
record SameFront (count : ℕ) (x y : List ℕ) : Type 0 where
  range : (i j : ℕ) → i ≤ j → j ≤ count → slice_range y i j ≡ slice_range x i j
  front : (n : ℕ) → n ≤ count → take n y ≡ take n x

number_same : (count : ℕ) (x y : List ℕ) → SameFront count x y → (i n : ℕ) → i + n ≤ count → number_at i n y ≡ number_at i n x
number_same count x y same i n le = rw (same.range i (i + n) (omega arith) le) refl

take_less : (m n : ℕ) (a b : List ℕ) → m ≤ n → take n a ≡ take n b → take m a ≡ take m b
take_less m n a b le same = sym (take-take m n a le) ∙ ap (take m) same ∙ take-take m n b le

range_less : (i j n : ℕ) (a b : List ℕ) → i ≤ j → j ≤ n → take n a ≡ take n b → slice_range a i j ≡ slice_range b i j
range_less i j n a b up le same =
    let at : i + (j - i) ≡ j = omega arith in
    sym (drop-take i (j - i) a) ∙ ap (drop i) (take_less (i + (j - i)) n a b (omega arith) same) ∙ drop-take i (j - i) b

front_same : (count : ℕ) (x y : List ℕ) → take count x ≡ take count y → SameFront count x y
front_same count x y same = record {
  range = λ i j up le. range_less i j count y x up le (sym same);
  front = λ n le. take_less n count y x le (sym same);
}

-- ## Headers.

header_moves : (b : ℕ) (x y : List ℕ) (k : Header) → SameFront 92 x y → HeaderBytes b k y → (l : Header) → HeaderBytes b l x
    → HeaderBytes b l y
header_moves b x y k same q l is =
    let num = number_same 92 x y same in
    let f = is.fields in
    record {
      signature = q.signature;
      revision = q.revision;
      size = q.size;
      crc = q.crc;
      fields = record {
        my = num 24 8 (omega arith) ∙ f.my;
        alternate = num 32 8 (omega arith) ∙ f.alternate;
        first = num 40 8 (omega arith) ∙ f.first;
        last = num 48 8 (omega arith) ∙ f.last;
        disk = same.range 56 72 (omega arith) (omega arith) ∙ f.disk;
        array = num 72 8 (omega arith) ∙ f.array;
        count = num 80 4 (omega arith) ∙ f.count;
        entry_size = num 84 4 (omega arith) ∙ f.entry_size;
        array_crc = num 88 4 (omega arith) ∙ f.array_crc;
      };
    }

pub headers_ok : (b : ℕ) (x y : List ℕ) (h k : Header) → HeaderBytes b h x → HeaderBytes b k y → take 92 x ≡ take 92 y → SameHeaders b x y
headers_ok b x y h k p q same =
    λ l. (header_moves b x y k (front_same 92 x y same) q l, header_moves b y x h (front_same 92 y x (sym same)) p l)

pub headers_none : (b : ℕ) (x y : List ℕ) (e f : CopyError) → IsHeaderFault b e x → IsHeaderFault b f y → SameHeaders b x y
headers_none b x y e f p q = λ l. (λ is. absurd (no_header_lem b e l x p is), λ is. absurd (no_header_lem b f l y q is))

-- ## Labels.

pub labels_none : (x y : List ℕ) → ¬ HasMagic x → ¬ HasMagic y → SameLabels x y
labels_none x y p q = λ l first len. (λ is. absurd (p is.magics.first), λ is. absurd (q is.magics.first))

entry_moves : (x y : List ℕ) (k : ℕ) → SameFront 276 x y → k < 8 → (o : Option LabelEntry) → IsEntry o k x → IsEntry o k y
entry_moves x y k same lt None is = rw (number_same 276 x y same 138 2 (omega arith)) is
entry_moves x y k same lt (Some e) is = (
  rw (number_same 276 x y same 138 2 (omega arith)) is.0,
  let num = number_same 276 x y same in
      record {
        size = num (148 + 16 * k) 4 (omega arith) ∙ is.1.size;
        offset = num (148 + 16 * k + 4) 4 (omega arith) ∙ is.1.offset;
        fragment = num (148 + 16 * k + 8) 4 (omega arith) ∙ is.1.fragment;
        fstype = num (148 + 16 * k + 12) 1 (omega arith) ∙ is.1.fstype;
        frag = num (148 + 16 * k + 13) 1 (omega arith) ∙ is.1.frag;
        cpg = num (148 + 16 * k + 14) 2 (omega arith) ∙ is.1.cpg;
      },
)

raw_moves : (x y : List ℕ) (first len : ℕ) → SameFront 276 x y → HasRaw first len x → HasRaw first len y
raw_moves x y first len same raw =
    let num = number_same 276 x y same in
    record { size = num 180 4 (omega arith) ∙ raw.size; start = start (num 184 4 (omega arith)) raw.start }
  where
    start : {A B : ℕ} → B ≡ A → (A ≡ 0) ⊎ (A ≡ first) → (B ≡ 0) ⊎ (B ≡ first)
    start e (inl zeroth) = inl (e ∙ zeroth)
    start e (inr there) = inr (e ∙ there)

fields_move : (x y : List ℕ) (l : Label) → SameFront 276 x y → HasLabelFields l x → HasLabelFields l y
fields_move x y l same f =
    let num = number_same 276 x y same in
    record {
      kind = num 4 2 (omega arith) ∙ f.kind;
      subtype = num 6 2 (omega arith) ∙ f.subtype;
      type_name = same.range 8 24 (omega arith) (omega arith) ∙ f.type_name;
      pack_name = same.range 24 40 (omega arith) (omega arith) ∙ f.pack_name;
      geometry = rw (num 44 4 (omega arith), num 48 4 (omega arith), num 52 4 (omega arith), num 56 4 (omega arith)) f.geometry;
      unit = num 60 4 (omega arith) ∙ f.unit;
      kept = same.range 64 132 (omega arith) (omega arith) ∙ f.kept;
      bbsize = num 140 4 (omega arith) ∙ f.bbsize;
      sbsize = num 144 4 (omega arith) ∙ f.sbsize;
    }

sum_moves : (x y : List ℕ) → SameFront 276 x y → counted_in x ≤ 8 → HasSum x → HasSum y
unfolding HasSum
sum_moves x y same few sum =
    rw (number_same 276 x y same 138 2 (omega arith), same.front (148 + 16 * counted_in x) (omega (arith, few))) sum

label_moves : (x y : List ℕ) → SameFront 276 x y → (l : Label) (first len : ℕ) → LabelBytes l first len x → LabelBytes l first len y
label_moves x y same l first len is =
    let num = number_same 276 x y same in
    record {
      magics = record { first = num 0 4 (omega arith) ∙ is.magics.first; second = num 132 4 (omega arith) ∙ is.magics.second };
      count = record {
        least = rw (num 138 2 (omega arith)) is.count.least;
        most = rw (num 138 2 (omega arith)) is.count.most;
      };
      sum = sum_moves x y same is.count.most is.sum;
      sector_size = num 40 4 (omega arith) ∙ is.sector_size;
      raw = raw_moves x y first len same is.raw;
      fields = fields_move x y l same is.fields;
      entries = record {
        places = is.entries.places;
        each = λ k lt. entry_moves x y k same lt (entry_of l k) (is.entries.each k lt);
      };
    }

pub labels_ok : (x y : List ℕ) → take 276 x ≡ take 276 y → SameLabels x y
labels_ok x y same = λ l first len. (
  label_moves x y (front_same 276 x y same) l first len,
  label_moves y x (front_same 276 y x (sym same)) l first len,
)

-- ## A sector of a disk.

says_refl : (b s : ℕ) (x : List ℕ) → SaysSame b s x x
says_refl b s x = record {
  head = λ at. record { plain = (λ is. is, λ is. is); records = λ is m. (λ are. are, λ are. are) };
  ebr = λ first at e. (λ is. is, λ is. is);
  label = λ l first len. (λ is. is, λ is. is);
  header = λ h. (λ is. is, λ is. is);
}

-- the bytes that stand there
pub alike_equal : (b : ℕ) (d : Sectors) (s : ℕ) (x y : List ℕ) → x ≡ y → sector d s ≡ y → IsAlike b d s x
alike_equal b d s x y same there =
    let it : x ≡ sector d s = same ∙ sym there in
    record { says = subst (λ (z : List ℕ). SaysSame b s z (sector d s)) (sym it) (says_refl b s (sector d s)); array = λ none counted. it }

-- others, in no array
pub alike_says : (b : ℕ) (d : Sectors) (s : ℕ) (x y : List ℕ) → SaysSame b s x y → sector d s ≡ y
    → (¬ IsMbrDisk d → IsCounted b d s → ⊥) → IsAlike b d s x
alike_says b d s x y says there nowhere = record {
  says = subst (λ (z : List ℕ). SaysSame b s x z) (sym there) says;
  array = λ none counted. absurd (nowhere none counted);
}

-- what a test says
pub unlike : (r : Bool) → r ≡ false → IsTrue r → ⊥
unlike r is_false is_true = absurd cc

pub holds : (r : Bool) → r ≡ true → IsTrue r
holds r is_true = is_true

-- the whole bytes
pub whole_same : (n : ℕ) (x y : List ℕ) → length x ≡ n → length y ≡ n → take n x ≡ take n y → x ≡ y
whole_same n x y p q same = sym (take_all n x (omega arith)) ∙ same ∙ take_all n y (omega arith)
