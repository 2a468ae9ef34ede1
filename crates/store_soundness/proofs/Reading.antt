-- Two sound stores that agree about a handle: a read by it gives the same.
-- Assumes nothing.
use Rattle.std.specs.Prelude.{Option, Some, None}
use Prim.Native.Nat.{ℕ, ◌+◌, ◌<◌}
use mathlib.Core.Path.{◌≡◌, refl, sym, ap, ◌∙◌}
use mathlib.Core.Bool.{Bool, true, false}
use mathlib.Core.List.{List, [], ◌∷◌}
use borrow.Author.Tests.{ne_eqb}
use lib.Dec.{eqb}
use lib.ListN.{get_or}
use Rattle.refusal.specs.Table.{◌when◌, Answer, granted, refused, ◌or_else◌}
use Rattle.handle.specs.Bits.{generation_in, number_in}
use Rattle.borrow_word.specs.Word.{is_unique}
use Rattle.id_tables.specs.Ids.{Ids, index_at, live}
use Rattle.id_tables.specs.Lookup.{reserved_new}
use Rattle.decl.specs.Decl.{Decl, first_column, width_of, types_of}
use Rattle.decl.specs.Lookup.{column_of}
use Rattle.cells.specs.Cell.{cell}
use Rattle.row_step.specs.Tables.{Rows}
use Rattle.columns.specs.Calls.{held_at}
use Rattle.columns.proofs.Cells.{held_is}
use Rattle.store_tables.specs.Store.{Store, store_of}
use Rattle.store_tables.specs.Rows.{archetype_of, row_of, owns}
use Rattle.store_reads.specs.declared.component.Cell.{Cell}
use Rattle.store_reads.specs.Component.{◌and_then◌, cell_in, column_cell, component_at}
use Rattle.store_reads.specs.Read.{cell_read, read_at}
use Rattle.store_reads.proofs.Cells.{column_in}
use Rattle.store_reads.proofs.Meaning.{component_reserved}
use Rattle.store_reads.proofs.Agreeing.{component_absent, component_live, read_is, reading_past, cell_taken, cell_open}
use Rattle.soundness.specs.Sound.{Sound}
use Rattle.soundness.proofs.Meaning.{live_lives}
use Rattle.store_soundness.specs.Reads.{read_bytes}
use Rattle.store_soundness.proofs.Seated.{archetype_at}
use Rattle.store_soundness.proofs.Bridge.{sound_entered}
use Rattle.store_soundness.proofs.Leaving.{own_row}

-- number m has the same archetype, and its row holds the same in every column
pub record Same (d : Decl) (i j : Ids) (w u : Rows) (m : ℕ) : Type 0 where
  pub archetype_same : archetype_at j m ≡ archetype_at i m
  pub held_same : (c : ℕ) → c < width_of d (archetype_at i m) → held_at d u (archetype_at i m) (index_at j m) c ≡ held_at d w (archetype_at i m) (index_at i m) c

-- the same, of the column of one type alone
pub record SameFor (d : Decl) (i j : Ids) (w u : Rows) (m t : ℕ) : Type 0 where
  pub archetype_same : archetype_at j m ≡ archetype_at i m
  pub held_same : (c : ℕ) → column_of (types_of d (archetype_at i m)) t ≡ Some c → held_at d u (archetype_at i m) (index_at j m) c ≡ held_at d w (archetype_at i m) (index_at i m) c

-- the bytes of a cell that is read
abbrev took : List ℕ → ℕ × ℕ → Answer (List ℕ)
took b p = granted (cell b p.0 p.1)

module _ {s : Store} (sound : Sound s) {j : Ids} {u : Rows} (after : Sound (store_of s.decl j u s.words)) (bits t : ℕ) where
  abbrev s' : Store
  s' = store_of s.decl j u s.words

  abbrev g : ℕ
  g = generation_in bits

  abbrev m : ℕ
  m = number_in bits

  abbrev Agrees : Type 0
  Agrees = (read_at s' t g m and_then took u.bytes) ≡ (read_at s t g m and_then took s.rows.bytes)

  -- past the component
  through : {k k' : Answer Cell} → component_at s t g m ≡ k → component_at s' t g m ≡ k'
      → ((k' and_then cell_read s.words) and_then took u.bytes) ≡ ((k and_then cell_read s.words) and_then took s.rows.bytes) → Agrees
  through e e' h = rw (read_is s t g m, read_is s' t g m, e, e') h

  refused_both : (n : ℕ) → component_at s t g m ≡ refused n → component_at s' t g m ≡ refused n → Agrees
  refused_both n e e' = through e e' refl

  -- a column of one archetype, in two rows that hold the same there
  in_column : (a r q : ℕ) → ((c : ℕ) → column_of (types_of s.decl a) t ≡ Some c → held_at s.decl u a q c ≡ held_at s.decl s.rows a r c)
      → (c : Option ℕ) → column_of (types_of s.decl a) t ≡ c
      → ((column_cell s.decl a q c and_then cell_read s.words) and_then took u.bytes) ≡ ((column_cell s.decl a r c and_then cell_read s.words) and_then took s.rows.bytes)
  in_column a r q same None e = refl
  in_column a r q same (Some c) e = by (is_unique (get_or s.words (first_column s.decl a + c) 0)) refl
    where
      by : (b : Bool) → is_unique (get_or s.words (first_column s.decl a + c) 0) ≡ b
          → (cell_read s.words (cell_in s.decl a q c) and_then took u.bytes) ≡ (cell_read s.words (cell_in s.decl a r c) and_then took s.rows.bytes)
      by true x = rw (cell_taken s.words (cell_in s.decl a q c) x, cell_taken s.words (cell_in s.decl a r c) x)
      by false x =
          rw (cell_open s.words (cell_in s.decl a q c) x, cell_open s.words (cell_in s.decl a r c) x)
          (ap granted (sym (held_is s.decl u a q c) ∙ same c e ∙ held_is s.decl s.rows a r c))

  module _ (live_same : live j g m ≡ live s.ids g m) (new-same : reserved_new j.head g m ≡ reserved_new s.ids.head g m)
      (same : live s.ids g m ≡ true → SameFor s.decl s.ids j s.rows u m t) where
    alive : live s.ids g m ≡ true → Agrees
    alive l =
        let lives = (live_lives s.ids sound.ids g m l).0 in
        let lives' = (live_lives j after.ids g m (live_same ∙ l)).0 in
        let k = same l in
        through (component_live s t g m l (own_row sound lives)) (component_live s' t g m (live_same ∙ l) (own_row after lives'))
        (rw k.archetype_same (in_column (archetype_of s m) (row_of s m) (index_at j m) k.held_same (column_of (types_of s.decl (archetype_of s m)) t) refl))

    dead : live s.ids g m ≡ false → (b : Bool) → reserved_new s.ids.head g m ≡ b → Agrees
    dead l true r = refused_both 15 (component_reserved s t g m r) (component_reserved s' t g m (new-same ∙ r))
    dead l false r = refused_both 2 (component_absent s t g m l r) (component_absent s' t g m (live_same ∙ l) (new-same ∙ r))

    by_live : (b : Bool) → live s.ids g m ≡ b → Agrees
    by_live true l = alive l
    by_live false l = dead l (reserved_new s.ids.head g m) refl

    pub read_same_for : read_bytes (store_of s.decl j u s.words) bits t ≡ read_bytes s bits t
    unfolding read_bytes ◌or_else◌
    read_same_for = rw (reading_past s bits t sound.head_rule, reading_past s' bits t after.head_rule) (by (eqb g 0))
      where
        by : (b : Bool)
            → ((5 when b ∷ [] or_else read_at s' t g m) and_then took u.bytes) ≡ ((5 when b ∷ [] or_else read_at s t g m) and_then took s.rows.bytes)
        by true = refl
        by false = by_live (live s.ids g m) refl

  pub read_same : live j (generation_in bits) (number_in bits) ≡ live s.ids (generation_in bits) (number_in bits)
      → reserved_new j.head (generation_in bits) (number_in bits) ≡ reserved_new s.ids.head (generation_in bits) (number_in bits)
      → (live s.ids (generation_in bits) (number_in bits) ≡ true → Same s.decl s.ids j s.rows u (number_in bits))
      → read_bytes (store_of s.decl j u s.words) bits t ≡ read_bytes s bits t
  read_same x y same =
      read_same_for x y
      (λ l. let k = same l in
      record { archetype_same = k.archetype_same; held_same = λ c e. k.held_same c (column_in s.decl (archetype_of s m) t c (sound_entered sound).rows.tabled.kept e) })

-- What a read gives on sound tables, case by case.
module _ {s : Store} (sound : Sound s) (bits t : ℕ) (nz : generation_in bits ≡ 0 → ⊥) where
  past_bits : {x : Answer (List ℕ)} → (read_at s t (generation_in bits) (number_in bits) and_then took s.rows.bytes) ≡ x → read_bytes s bits t ≡ x
  unfolding read_bytes ◌or_else◌
  past_bits h = rw (reading_past s bits t sound.head_rule, ne_eqb (generation_in bits) 0 nz) h

  via_component : {k : Answer Cell} {x : Answer (List ℕ)} → component_at s t (generation_in bits) (number_in bits) ≡ k
      → ((k and_then cell_read s.words) and_then took s.rows.bytes) ≡ x → read_bytes s bits t ≡ x
  via_component e h = past_bits (rw (read_is s t (generation_in bits) (number_in bits), e) h)

  -- neither live nor a reserved new number: 2
  pub read_absent : live s.ids (generation_in bits) (number_in bits) ≡ false → reserved_new s.ids.head (generation_in bits) (number_in bits) ≡ false
      → read_bytes s bits t ≡ refused 2
  read_absent l r = via_component (component_absent s t (generation_in bits) (number_in bits) l r) refl

  -- a reserved new number: 15
  pub read_reserved : reserved_new s.ids.head (generation_in bits) (number_in bits) ≡ true → read_bytes s bits t ≡ refused 15
  read_reserved r = via_component (component_reserved s t (generation_in bits) (number_in bits) r) refl

  module _ (l : live s.ids (generation_in bits) (number_in bits) ≡ true) where
    abbrev a : ℕ
    a = archetype_of s (number_in bits)

    abbrev r : ℕ
    r = row_of s (number_in bits)

    own : owns s (number_in bits) ≡ true
    own = own_row sound (live_lives s.ids sound.ids (generation_in bits) (number_in bits) l).0

    -- live, in an archetype without the type: 15
    pub read_missing : column_of (types_of s.decl (archetype_of s (number_in bits))) t ≡ None → read_bytes s bits t ≡ refused 15
    read_missing e =
        via_component (component_live s t (generation_in bits) (number_in bits) l own ∙ ap (column_cell s.decl a r) e) refl

    module _ (c : ℕ) (e : column_of (types_of s.decl (archetype_of s (number_in bits))) t ≡ Some c) where
      found : component_at s t (generation_in bits) (number_in bits) ≡ granted (cell_in s.decl a r c)
      found = component_live s t (generation_in bits) (number_in bits) l own ∙ ap (column_cell s.decl a r) e

      -- live, of a column that is held uniquely: 7
      pub read_taken : is_unique (get_or s.words (first_column s.decl (archetype_of s (number_in bits)) + c) 0) ≡ true → read_bytes s bits t ≡ refused 7
      read_taken x = via_component found (rw (cell_taken s.words (cell_in s.decl a r c) x))

      -- else the bytes of its row in that column
      pub read_held : is_unique (get_or s.words (first_column s.decl (archetype_of s (number_in bits)) + c) 0) ≡ false
          → read_bytes s bits t ≡ granted (held_at s.decl s.rows (archetype_of s (number_in bits)) (row_of s (number_in bits)) c)
      read_held x = via_component found (rw (cell_open s.words (cell_in s.decl a r c) x) (ap granted (sym (held_is s.decl s.rows a r c))))
