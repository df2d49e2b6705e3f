-- `records::kinds::record_at` meets its contract: a correction is the cast of its word. Assumes nothing.
use mir.Syntax.{w32}
use mir.ValLaws.{to_z-of_z}
use Rattle.records.specs.Numbers.{words_at}
use Rattle.records.specs.Record.{count_of, record_of}
use Rattle.records.proofs.Signed.{signed_is}
use Rattle.records.proofs.kinds.record_at.Goals as goal

pub returns-in-Correction : goal.returns-in-Correction
unfolding count_of record_of words_at
returns-in-Correction c =
    rw (c.in-Correction.is, to_z-of_z w32 c.cast_signed.result (record { sfits = c.cast_signed.type_inv }), c.cast_signed.ensures, c.word_at.ensures, signed_is)
