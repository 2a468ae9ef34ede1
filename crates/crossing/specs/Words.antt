-- A head as four numbers of 64 bits: used, pending, the cursor in two's complement, live.
use Rattle.std.specs.Prelude.{ℕ, suc, ◌-◌, ◌^◌, cond, List, ltb, ℤ, pos, negsuc, get_or}
use Rattle.id_tables.specs.declared.head.Head.{Head}

-- the signed number that 64 bits stand for
unfoldable pub signed_of : ℕ → ℤ
signed_of w = cond (ltb w (2 ^ 63)) (pos w) (negsuc (2 ^ 64 - suc w))

unfoldable pub head_of : List ℕ → Head
head_of ws = record { used = get_or ws 0 0; pending = get_or ws 1 0; cursor = signed_of (get_or ws 2 0); live = get_or ws 3 0 }
