-- What a read of a chunk gave, and what comes after it.
use Rattle.std.specs.Prelude.{ℕ, Bool, cond, eqb, ℤ, pos, negsuc, Result, Ok, Err}
use Rattle.text_chunks.specs.declared.Next.{Next}
use Rattle.text_chunks.specs.declared.Next.TheVariants.{Read, Rest, End, Failed}

-- how many bytes a read gave: it gives their number, or its error
unfoldable pub given : Result ℕ ℤ → ℕ
given (Ok n) = n
given (Err error) = 0

-- what comes after a read that failed with this error: another one where a signal only interrupted it (4, EINTR)
unfoldable pub after_failure : ℤ → Next
after_failure (pos e) = cond (eqb e 4) Read (Failed (pos e))
after_failure (negsuc e) = Failed (negsuc e)

-- what comes after the bytes before this place of a chunk: the end where the reading is over, another read where the chunk ends there, and
-- else the rest of the chunk
unfoldable pub after_part : Bool → ℕ → ℕ → Next
after_part over place end = cond over End (cond (eqb place end) Read (Rest place))
