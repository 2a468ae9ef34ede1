-- What passing the first tests gives a store call.
use Rattle.std.specs.Prelude.{◌≡◌, length}
use Rattle.id_tables.specs.Ids.{EntryOk}
use Rattle.decl.specs.Decl.{columns}
use Rattle.column_entry.specs.Kept.{Ready}
use Rattle.store_tables.specs.Store.{Store}

pub record Entered (s : Store) : Type 0 where
  pub ids : EntryOk s.ids
  pub rows : Ready s.decl s.rows
  pub words_long : length s.words ≡ columns s.decl
