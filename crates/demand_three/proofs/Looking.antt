-- The lookups of the store on sound tables: what the id layer says of the handle's generation and number.
-- Assumes nothing.
use Prim.Native.Nat.{ℕ, ◌≤◌}
use mathlib.Core.Path.{◌≡◌, refl, sym, ap, ◌∙◌}
use mathlib.Core.Bool.{Bool, true, false}
use mathlib.Core.List.{List, map}
use borrow.Author.Tests.{eqb-false}
use lib.Dec.{eqb}
use Rattle.refusal.specs.Table.{granted, refused, ◌or_else◌}
use Rattle.handle.specs.Bits.{bits_of, generation_in, number_in}
use Rattle.handle.specs.RoundTrip.{bits_back}
use Rattle.id_tables.specs.Ids.{Ids}
use Rattle.id_tables.specs.Lookup.{is_contained, place_got}
use Rattle.id_tables.specs.Lookup as ids
use Rattle.id_tables.proofs.Laws.{Entered, containing_at, getting_at}
use Rattle.id_tables.proofs.Refusing.{containing_lines, getting_lines}
use Rattle.store_tables.specs.Store.{Store}
use Rattle.store_reads.specs.Lookup.{getting, containing}
use Rattle.store_reads.proofs.Finding.{containing_is, getting_is}
use Rattle.soundness.specs.Sound.{SoundIds, Sound}
use Rattle.soundness.proofs.Lists.{Lists, lists_map, mem_among, among_mem}
use Rattle.soundness.proofs.Meaning.{live_lives}
use Rattle.soundness.proofs.Growing.{Fresh, fresh_in}
use Rattle.soundness.proofs.Handing.{vacant, gen_of, handle_of, handle_number, handle_generation}
use Rattle.store_soundness.specs.Reads.{read_bytes}
use Rattle.store_soundness.proofs.Leaving.{own_row}
use Rattle.demand_three.specs.Demand.{Among, SameLookup}

module _ {s : Store} (h : Sound s) (bits : ℕ) where
  pub contains_ids : containing s bits ≡ ids.containing s.ids bits
  contains_ids = containing_is s h.head_rule bits

  pub get_ids : getting s bits ≡ ids.getting s.ids bits
  get_ids = getting_is s h.head_rule bits (λ e. own_row h (live_lives s.ids h.ids (generation_in bits) (number_in bits) e).0)

  -- a handle with a generation
  module _ (nz : generation_in bits ≡ 0 → ⊥) where
    enters : Entered s.ids bits
    enters = record { passes = h.ids.head_rule; nonzero = nz }

    pub contains_is : containing s bits ≡ granted (is_contained s.ids (generation_in bits) (number_in bits))
    contains_is = contains_ids ∙ containing_at s.ids bits enters

    pub get_is : getting s bits ≡ place_got s.ids (generation_in bits) (number_in bits)
    get_is = get_ids ∙ getting_at s.ids bits enters

  -- one without
  module _ (z : eqb (generation_in bits) 0 ≡ true) where
    pub contains_zero : containing s bits ≡ refused 5
    unfolding ◌or_else◌
    contains_zero = contains_ids ∙ (containing_lines s.ids h.ids.head_rule bits ∙ rw z)

    pub get_zero : getting s bits ≡ refused 5
    unfolding ◌or_else◌
    get_zero = get_ids ∙ (getting_lines s.ids h.ids.head_rule bits ∙ rw z)

-- two sound stores that say the same of a handle's generation and number
pub same_lookup : {s t : Store} → Sound s → Sound t → (h : ℕ) → is_contained t.ids (generation_in h) (number_in h) ≡ is_contained s.ids (generation_in h) (number_in h)
    → place_got t.ids (generation_in h) (number_in h) ≡ place_got s.ids (generation_in h) (number_in h) → ((kind : ℕ) → read_bytes t h kind ≡ read_bytes s h kind) → SameLookup s t h
same_lookup {s} {t} a b h c p reads = by (eqb (generation_in h) 0) refl
  where
    by : (q : Bool) → eqb (generation_in h) 0 ≡ q → SameLookup s t h
    by true z = (contains_zero b h z ∙ sym (contains_zero a h z), get_zero b h z ∙ sym (get_zero a h z), reads)
    by false z =
        let nz = eqb-false (generation_in h) 0 z in
        (contains_is b h nz ∙ (ap granted c ∙ sym (contains_is a h nz)), get_is b h nz ∙ (p ∙ sym (get_is a h nz)), reads)

-- the handles of numbers that are handed out
module _ {s : Ids} (k : SoundIds s) (lo hi : ℕ) (room : hi ≤ vacant s) {ns : List ℕ} (l : Lists (Fresh s lo hi) ns) where
  pub handles_list : Lists (λ (h : ℕ). (m : ℕ) × Fresh s lo hi m × (h ≡ handle_of s m)) (map (handle_of s) ns)
  handles_list =
      lists_map (handle_of s) (λ x y p q e. sym (handle_number k x (fresh_in k lo hi x room p)) ∙ (ap number_in e ∙ handle_number k y (fresh_in k lo hi y room q))) l

  -- a handle is among them where its number is handed out, at its generation
  pub among_fresh : (h : ℕ) → Among h (map (handle_of s) ns) → Fresh s lo hi (number_in h) × (generation_in h ≡ gen_of s (number_in h))
  among_fresh h x =
      let (m, f, e) = handles_list.only h (among_mem h (map (handle_of s) ns) x) in
      let c = fresh_in k lo hi m room f in
      let en : number_in h ≡ m = ap number_in e ∙ handle_number k m c in
      let eg : generation_in h ≡ gen_of s m = ap generation_in e ∙ handle_generation k m c in
      rw en (f, eg)

  pub fresh_among : (h : ℕ) → Fresh s lo hi (number_in h) × (generation_in h ≡ gen_of s (number_in h)) → Among h (map (handle_of s) ns)
  fresh_among h x =
      mem_among h (map (handle_of s) ns) (handles_list.all h (number_in h, x.0, sym (bits_back h) ∙ ap (λ (g : ℕ). bits_of g (number_in h)) x.1))
