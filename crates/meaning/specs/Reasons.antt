-- The number of each reason for which a call is refused, or a run ends early.
use Rattle.std.specs.Prelude.{ℕ}
use Rattle.meaning.specs.declared.reasons.Reason.{Reason}
use Rattle.meaning.specs.declared.reasons.Reason.TheVariants.{TooLong, NotThere, BadNumber, BadEnd, WrongTable, IllFormed, NotFresh, ClockFull, Halted, BadMark, BadMask, BadVariable, BadBuffer, StoreFull, BadStore}
use Rattle.meaning.specs.Numbers.{too_long, not_there, bad_number, bad_end, wrong_table, ill_formed, not_fresh, clock_full, halted, bad_mark, bad_mask, bad_variable, bad_buffer, store_full, bad_store}

abbrev pub number_of : Reason → ℕ
number_of TooLong = too_long
number_of NotThere = not_there
number_of BadNumber = bad_number
number_of BadEnd = bad_end
number_of WrongTable = wrong_table
number_of IllFormed = ill_formed
number_of NotFresh = not_fresh
number_of ClockFull = clock_full
number_of Halted = halted
number_of BadMark = bad_mark
number_of BadMask = bad_mask
number_of BadVariable = bad_variable
number_of BadBuffer = bad_buffer
number_of StoreFull = store_full
number_of BadStore = bad_store
