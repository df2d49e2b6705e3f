-- Each refusal in words, as `dates` prints it (docs/RULES.md, "Pads as text"). Definitions only.
use Rattle.std.specs.Prelude.{ℕ, List, codes}
use Rattle.date_table.specs.declared.Refusal.{Refusal}
use Rattle.date_table.specs.declared.Refusal.TheVariants.{LevelTooHigh, BufferTooShort, OddLength, EntryOutOfRange, TimeOutside, TableFalls}

abbrev pub words_of_refusal : Refusal → List ℕ
words_of_refusal LevelTooHigh = codes "level too high"
words_of_refusal BufferTooShort = codes "too short"
words_of_refusal OddLength = codes "half an entry"
words_of_refusal EntryOutOfRange = codes "out of range"
words_of_refusal TimeOutside = codes "outside the bridge"
words_of_refusal TableFalls = codes "falling"
