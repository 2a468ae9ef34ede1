-- The contracts determine the result and what is left: no second result fits. One instance a function, under its name.
-- Assumes nothing.
use Rattle.std.proofs.Common.{ℕ, min, ◌≡◌, sym, ◌∙◌, List, length, get_or, take, drop}
use Rattle.replay_store_line.specs.Store.{told_in, kept, kept_all, digest_of}

-- one value meets an equation with a rule
abbrev One : {A : Type 0} → A → Type 0
One {A} rule = (r s : A) → r ≡ rule → s ≡ rule → r ≡ s

one : {A : Type 0} (rule : A) → One rule
one rule r s d e = d ∙ sym e

pub told : (tables : List ℕ) → One (told_in tables)
told tables = one _

pub keep_table : {V T : Type 0} (keeps : V → T) (list : List T) (at : ℕ) (values : List V) → One (kept keeps list at values)
keep_table keeps list at values = one _

-- of `Tables::keep` too, which keeps the parts that the call was lent
pub keep : (tables head generations archetypes indices pending numbers counts bytes words : List ℕ)
    → One (kept_all tables head generations archetypes indices pending numbers counts bytes words)
keep tables head generations archetypes indices pending numbers counts bytes words = one _

pub pending_lent : (line : List ℕ) → One (min (get_or line 4 0) 16)
pending_lent line = one _

pub counts_lent : (line : List ℕ) → One (min (get_or line 5 0) 6)
counts_lent line = one _

pub digest : (tables line : List ℕ) → One (digest_of tables (min (get_or line 4 0) 16) (min (get_or line 5 0) 6))
digest tables line = one _

pub values_lent : (line : List ℕ) → One (min (length (take 80 (drop 6 line))) 80)
values_lent line = one _
