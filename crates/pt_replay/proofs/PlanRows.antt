-- The rows of a plan, phase by phase.
use Rattle.std.proofs.Common.{◌≡◌, ◌<◌, ◌≤◌, ℕ, ◌+◌, suc, List, [], ◌∷◌, ◌++◌, length, map, take, get_or, sym, ap, ◌∙◌, subst, arith}
use Rattle.std.proofs.Common.{append_assoc, length-append, refl, inl, inr}
use Rattle.std.proofs.lemmas.List.{append-nil, map-append, take_more, length-map, length-take-le}
use Rattle.std.specs.Prelude.{Vec}
use Rattle.std.specs.declared.alloc.Global.{Global}
use Rattle.pt_sector.specs.Sectors.{Sectors, Writes}
use Rattle.pt_apply.specs.declared.plan.Write.{Write}
use Rattle.pt_apply.specs.Plans.{writes_of}
use Rattle.pt_apply.specs.inner.Plans.{phases_in}
use Rattle.pt_replay.specs.Given.{rows_in, bytes_in, rows_from, bytes_of, sectors_of, AreFull}
use Rattle.pt_replay.specs.inner.Given.{AreRows, phases_read, IsNumbered, Took}
use Rattle.pt_replay.proofs.ViewLemmas.{AreRead, IsGrowing}
use Rattle.pt_replay.specs.declared.rows.WriteRow.{WriteRow}
use Rattle.pt_replay.specs.declared.plan_rows.Partial.{Partial}

pub none_listed : (rows : List WriteRow) (bytes : List ℕ) → rows ≡ [] → bytes ≡ [] → AreRows [] rows bytes
unfolding rows_from bytes_of
none_listed rows bytes no_rows no_bytes = record { rows_are = no_rows; bytes_are = no_bytes }

rows_more : (n : ℕ) (ps : List Writes) (p : Writes) → rows_from n (ps ++ p ∷ []) ≡ rows_from n ps ++ rows_in (n + length ps) p
unfolding rows_from
rows_more n [] p = append-nil (rows_in n p) ∙ ap (λ (k : ℕ). rows_in k p) (let e : n ≡ n + length {A = Writes} [] = omega arith in e)
rows_more n (q ∷ ps) p =
    ap (λ (t : List WriteRow). rows_in n q ++ t) (rows_more (n + 1) ps p)
    ∙ (sym (append_assoc (rows_in n q) (rows_from (n + 1) ps) (rows_in (n + 1 + length ps) p))
    ∙ ap (λ (k : ℕ). (rows_in n q ++ rows_from (n + 1) ps) ++ rows_in k p) (let e : n + 1 + length ps ≡ n + suc (length ps) =
    omega arith in e))

bytes_more : (ps : List Writes) (p : Writes) → bytes_of (ps ++ p ∷ []) ≡ bytes_of ps ++ bytes_in p
unfolding bytes_of
bytes_more [] p = append-nil (bytes_in p)
bytes_more (q ∷ ps) p = ap (λ (t : List ℕ). bytes_in q ++ t) (bytes_more ps p) ∙ sym (append_assoc (bytes_in q) (bytes_of ps) (bytes_in p))

module _ {b : ℕ} where
  phases_more : (items : List (Vec (Write b) Global)) (k : ℕ) (item : Vec (Write b) Global) → k < length items → item ≡ get_or items k item
      → phases_in (take (k + 1) items) ≡ phases_in (take k items) ++ writes_of item.items ∷ []
  phases_more items k item within is =
      ap (λ (t : List (Vec (Write b) Global)). phases_in t) (take_more items k item within
      ∙ ap (λ (y : Vec (Write b) Global). take k items ++ y ∷ []) (sym is))
      ∙ map-append (λ (p : Vec (Write b) Global). writes_of p.items) (take k items) (item ∷ [])

  phases_len : (items : List (Vec (Write b) Global)) (k : ℕ) → k ≤ length items → length (phases_in (take k items)) ≡ k
  phases_len items k within = length-map (take k items) (λ (p : Vec (Write b) Global). writes_of p.items) ∙ length-take-le k items within

  pub one_listed : (items : List (Vec (Write b) Global)) (k : ℕ) (item : Vec (Write b) Global) (rows : List WriteRow) (bytes : List ℕ)
      (rows' : List WriteRow) (bytes' : List ℕ)
      → k < length items → item ≡ get_or items k item → AreRows (phases_in (take k items)) rows bytes
      → rows' ≡ rows ++ rows_in (k + 1) (writes_of item.items) → bytes' ≡ bytes ++ bytes_in (writes_of item.items)
      → AreRows (phases_in (take (k + 1) items)) rows' bytes'
  one_listed items k item rows bytes rows' bytes' within is so_far rows_on bytes_on =
      let ps : List Writes = phases_in (take k items) in
      let p : Writes = writes_of item.items in
      let more : phases_in (take (k + 1) items) ≡ ps ++ p ∷ [] = phases_more items k item within is in
      let e : k + 1 ≡ 1 + length ps = let l = phases_len items k (omega (arith, within)) in omega (arith, l) in
      subst (λ (x : List Writes). AreRows x rows' bytes') (sym more) (record {
        rows_are = rows_on ∙ (ap (λ (t : List WriteRow). t ++ rows_in (k + 1) p) so_far.rows_are
            ∙ (ap (λ (n : ℕ). rows_from 1 ps ++ rows_in n p) e ∙ sym (rows_more 1 ps p)));
        bytes_are = bytes_on ∙ (ap (λ (t : List ℕ). t ++ bytes_in p) so_far.bytes_are ∙ sym (bytes_more ps p));
      })

sectors_more : (ps : List Writes) (p : Writes) → sectors_of (ps ++ p ∷ []) ≡ sectors_of ps ++ map (λ (w : ℕ × List ℕ). w.1) p
unfolding sectors_of
sectors_more [] p = append-nil (map (λ (w : ℕ × List ℕ). w.1) p)
sectors_more (q ∷ ps) p = ap (λ (t : Sectors). map (λ (w : ℕ × List ℕ). w.1) q ++ t) (sectors_more ps p)
    ∙ sym (append_assoc (map (λ (w : ℕ × List ℕ). w.1) q) (sectors_of ps) (map (λ (w : ℕ × List ℕ). w.1) p))

-- one more write of the last phase
pub rows_same : (ps : List Writes) (p : Writes) (w : ℕ × List ℕ) → rows_from 1 (ps ++ (p ++ w ∷ []) ∷ []) ≡ rows_from 1 (ps ++ p ∷ [])
    ++ record { sector = w.0; phase = 1 + length ps } ∷ []
rows_same ps p w =
    rows_more 1 ps (p ++ w ∷ [])
    ∙ (ap (λ (t : List WriteRow). rows_from 1 ps ++ t)
    (map-append (λ (x : ℕ × List ℕ). record { sector = x.0; phase = 1 + length ps }) p (w ∷ []))
    ∙ (sym (append_assoc (rows_from 1 ps) (rows_in (1 + length ps) p) (record { sector = w.0; phase = 1 + length ps } ∷ []))
    ∙ ap (λ (t : List WriteRow). t ++ record { sector = w.0; phase = 1 + length ps } ∷ []) (sym (rows_more 1 ps p))))

pub sectors_same : (ps : List Writes) (p : Writes) (w : ℕ × List ℕ) → sectors_of (ps ++ (p ++ w ∷ []) ∷ []) ≡ sectors_of (ps ++ p ∷ [])
    ++ w.1 ∷ []
sectors_same ps p w =
    sectors_more ps (p ++ w ∷ [])
    ∙ (ap (λ (t : Sectors). sectors_of ps ++ t) (map-append (λ (x : ℕ × List ℕ). x.1) p (w ∷ []))
    ∙ (sym (append_assoc (sectors_of ps) (map (λ (x : ℕ × List ℕ). x.1) p) (w.1 ∷ []))
    ∙ ap (λ (t : Sectors). t ++ w.1 ∷ []) (sym (sectors_more ps p))))

-- the first write of the next phase
pub rows_next : (ps : List Writes) (w : ℕ × List ℕ) → rows_from 1 (ps ++ (w ∷ []) ∷ []) ≡ rows_from 1 ps
    ++ record { sector = w.0; phase = 1 + length ps } ∷ []
rows_next ps w = rows_more 1 ps (w ∷ [])

pub sectors_next : (ps : List Writes) (w : ℕ × List ℕ) → sectors_of (ps ++ (w ∷ []) ∷ []) ≡ sectors_of ps ++ w.1 ∷ []
sectors_next ps w = sectors_more ps (w ∷ [])

-- a last phase without writes is none
pub rows_end : (ps : List Writes) → rows_from 1 (ps ++ [] ∷ []) ≡ rows_from 1 ps
rows_end ps = rows_more 1 ps [] ∙ append-nil (rows_from 1 ps)

pub sectors_end : (ps : List Writes) → sectors_of (ps ++ [] ∷ []) ≡ sectors_of ps
sectors_end ps = sectors_more ps [] ∙ append-nil (sectors_of ps)

-- a phase more
full_more : (ps : List Writes) (p : Writes) → AreFull ps → 1 ≤ length p → AreFull (ps ++ p ∷ [])
unfolding AreFull
full_more [] p full some = (some, tt)
full_more (q ∷ ps) p full some = (full.0, full_more ps p full.1 some)

module _ {b : ℕ} where
  abbrev pub write_of : WriteRow → List ℕ → Write b
  write_of row sector = record { lba = record { 0 = row.sector }; bytes = sector }

  -- a write of the last phase was read
  pub took_same : (row : WriteRow) (sector : List ℕ) (old new : Partial b) → IsNumbered old → row.phase ≡ old.number
      → new.phases.items ≡ old.phases.items
      → new.last.items ≡ old.last.items ++ record { lba = record { 0 = row.sector }; bytes = sector } ∷ [] → new.number ≡ old.number
      → Took row sector old new
  took_same row sector old new numbered phase phases_same last_on number_same =
      let ps : List Writes = phases_in old.phases.items in
      let p : Writes = writes_of old.last.items in
      let w : ℕ × List ℕ = (row.sector, sector) in
      let e : phases_read new ≡ ps ++ (p ++ w ∷ []) ∷ [] =
      ap (λ (items : List (Vec (Write b) Global)). phases_in items ++ writes_of new.last.items ∷ []) phases_same
      ∙ (ap (λ (items : List (Write b)). ps ++ writes_of items ∷ []) last_on
      ∙ ap (λ (t : Writes). ps ++ t ∷ []) (map-append (λ (x : Write b). (x.lba.0, x.bytes)) old.last.items (write_of row sector ∷ []))) in
      record {
        front = λ full. subst (λ (items : List (Vec (Write b) Global)). AreFull (phases_in items)) (sym phases_same) full;
        last = phase ∙ sym number_same;
        next = inl phase;
        some = let n = length-append old.last.items (write_of row sector ∷ []) in let on = ap (λ (t : List (Write b)). length t) last_on in
            omega (arith, n, on);
        numbered = number_same ∙ (numbered ∙ ap (λ (items : List (Vec (Write b) Global)). 1 + length (phases_in items)) (sym phases_same));
        rows = ap (λ (x : List Writes). rows_from 1 x) e ∙ (rows_same ps p w
            ∙ ap (λ (n : ℕ). rows_from 1 (ps ++ p ∷ []) ++ record { sector = row.sector; phase = n } ∷ []) (sym (phase ∙ numbered)));
        sectors = ap sectors_of e ∙ sectors_same ps p w;
      }

  -- the first write of the next phase was read
  pub took_next : (row : WriteRow) (sector : List ℕ) (old new : Partial b) (full : Vec (Write b) Global) → IsNumbered old
      → 1 ≤ length old.last.items → row.phase ≡ old.number + 1
      → full.items ≡ old.last.items → new.phases.items ≡ old.phases.items ++ full ∷ []
      → new.last.items ≡ record { lba = record { 0 = row.sector }; bytes = sector } ∷ [] → new.number ≡ row.phase → Took row sector old new
  took_next row sector old new full numbered some phase full_is phases_on last_is number_is =
      let ps : List Writes = phases_in old.phases.items in
      let p : Writes = writes_of old.last.items in
      let w : ℕ × List ℕ = (row.sector, sector) in
      let qs : phases_in new.phases.items ≡ ps ++ p ∷ [] =
      ap (λ (items : List (Vec (Write b) Global)). phases_in items) phases_on
      ∙ (map-append (λ (x : Vec (Write b) Global). writes_of x.items) old.phases.items (full ∷ [])
      ∙ ap (λ (items : List (Write b)). ps ++ writes_of items ∷ []) full_is) in
      let e : phases_read new ≡ (ps ++ p ∷ []) ++ (w ∷ []) ∷ [] =
      ap (λ (items : List (Write b)). phases_in new.phases.items ++ writes_of items ∷ []) last_is
      ∙ ap (λ (x : List Writes). x ++ (w ∷ []) ∷ []) qs in
      let len : length (ps ++ p ∷ []) ≡ length ps + 1 = length-append ps (p ∷ []) in
      let at : row.phase ≡ 1 + length (ps ++ p ∷ []) = omega (arith, len, phase, numbered) in
      record {
        front = λ front. subst AreFull (sym qs) (full_more ps p front (let len = length-map {B = ℕ × List ℕ} old.last.items
            (λ (x : Write b). (x.lba.0, x.bytes)) in omega (arith, len, some)));
        last = sym number_is;
        next = inr (phase, some);
        some = let on = ap (λ (t : List (Write b)). length t) last_is in omega (arith, on);
        numbered = number_is ∙ (at ∙ ap (λ (x : List Writes). 1 + length x) (sym qs));
        rows = ap (λ (x : List Writes). rows_from 1 x) e ∙ (rows_next (ps ++ p ∷ []) w
            ∙ ap (λ (n : ℕ). rows_from 1 (ps ++ p ∷ []) ++ record { sector = row.sector; phase = n } ∷ []) (sym at));
        sectors = ap sectors_of e ∙ sectors_next (ps ++ p ∷ []) w;
      }

  -- where the last phase has no write
  pub ends_rows : (phases : List (Vec (Write b) Global)) (last : List (Write b)) → length last ≡ 0
      → rows_from 1 (phases_in phases) ≡ rows_from 1 (phases_in phases ++ writes_of last ∷ [])
  ends_rows phases [] none = sym (rows_end (phases_in phases))
  ends_rows phases (x ∷ last) none = absurd (omega (arith, none))

  pub ends_sectors : (phases : List (Vec (Write b) Global)) (last : List (Write b)) → length last ≡ 0
      → sectors_of (phases_in phases) ≡ sectors_of (phases_in phases ++ writes_of last ∷ [])
  ends_sectors phases [] none = sym (sectors_end (phases_in phases))
  ends_sectors phases (x ∷ last) none = absurd (omega (arith, none))

  pub pushed : (phases later : List (Vec (Write b) Global)) (last : Vec (Write b) Global) → later ≡ phases ++ last ∷ []
      → phases_in later ≡ phases_in phases ++ writes_of last.items ∷ []
  pushed phases later last is = ap (λ (x : List (Vec (Write b) Global)). phases_in x) is
      ∙ map-append (λ (x : Vec (Write b) Global). writes_of x.items) phases (last ∷ [])

  -- the plan that was read has no empty phase
  pub ends_full : (phases later : List (Vec (Write b) Global)) (last : Vec (Write b) Global) → later ≡ phases ++ last ∷ []
      → 1 ≤ length last.items → AreFull (phases_in phases) → AreFull (phases_in later)
  ends_full phases later last is some front =
      subst AreFull (sym (pushed phases later last is)) (full_more (phases_in phases) (writes_of last.items) front
      (let len = length-map {B = ℕ × List ℕ} last.items (λ (x : Write b). (x.lba.0, x.bytes)) in omega (arith, len, some)))

  pub none_read : (new : Partial b) → new.phases.items ≡ [] → new.last.items ≡ [] → new.number ≡ 1 → AreRead [] [] new
  unfolding rows_from sectors_of
  none_read new no_phases no_last one =
      let e : phases_read new ≡ [] ∷ [] = ap (λ (items : List (Vec (Write b) Global)). phases_in items
      ++ writes_of new.last.items ∷ []) no_phases ∙ ap (λ (items : List (Write b)). writes_of items ∷ []) no_last in
      record {
        numbered = one ∙ ap (λ (items : List (Vec (Write b) Global)). 1 + length (phases_in items)) (sym no_phases);
        rows_are = sym (ap (λ (x : List Writes). rows_from 1 x) e);
        sectors_are = sym (ap sectors_of e);
      }

  pub one_read : (rows : List WriteRow) (sectors : Sectors) (k : ℕ) (row : WriteRow) (sector : List ℕ) (old new : Partial b)
      → k < length rows → k < length sectors
      → row ≡ get_or rows k row → sector ≡ get_or sectors k sector → AreRead (take k rows) (take k sectors) old → Took row sector old new
      → AreRead (take (k + 1) rows) (take (k + 1) sectors) new
  one_read rows sectors k row sector old new in_rows in_sectors row_is sector_is so_far took = record {
    numbered = took.numbered;
    rows_are = take_more rows k row in_rows ∙ (ap (λ (y : WriteRow). take k rows ++ y ∷ []) (sym row_is)
        ∙ (ap (λ (t : List WriteRow). t ++ row ∷ []) so_far.rows_are ∙ sym took.rows));
    sectors_are = take_more sectors k sector in_sectors
        ∙ (ap (λ (y : List ℕ). take k sectors ++ y ∷ []) (sym sector_is)
        ∙ (ap (λ (t : Sectors). t ++ sector ∷ []) so_far.sectors_are ∙ sym took.sectors));
  }

  -- nothing was read yet
  pub none_grows : (new : Partial b) → new.phases.items ≡ [] → new.last.items ≡ [] → new.number ≡ 1 → IsGrowing [] new
  unfolding AreFull
  none_grows new no_phases no_last one = record {
    front = subst (λ (items : List (Vec (Write b) Global)). AreFull (phases_in items)) (sym no_phases) tt;
    last = inl (refl, one, ap (λ (t : List (Write b)). length t) no_last);
  }

  pub one_grows : (rows : List WriteRow) (k : ℕ) (row : WriteRow) (held : List ℕ) (old new : Partial b)
      → k < length rows → row ≡ get_or rows k row → IsGrowing (take k rows) old → Took row held old new → IsGrowing (take (k + 1) rows) new
  one_grows rows k row held old new low is so_far took = record {
    front = took.front so_far.front;
    last = inr (take k rows, row, take_more rows k row low ∙ ap (λ (y : WriteRow). take k rows ++ y ∷ []) (sym is), took.last, took.some);
  }
