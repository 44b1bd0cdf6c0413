-- Why a file isn't read, by the kind of the error that the system gives.
use Rattle.std.specs.declared.io.ErrorKind.{ErrorKind}
use Rattle.std.specs.declared.io.ErrorKind.TheVariants.{NotFound, OutOfMemory}
use Rattle.outside.specs.declared.shelf.ShelfError.{ShelfError}
use Rattle.outside.specs.declared.shelf.ShelfError.TheVariants.{Missing, Failed, Memory}

-- a file that isn't found is missing; what isn't want of memory either is a failure
abbrev pub opening_refusal : ErrorKind → ShelfError
opening_refusal NotFound = Missing
opening_refusal OutOfMemory = Memory
opening_refusal _ = Failed

-- an opened file isn't missing any more
abbrev pub reading_refusal : ErrorKind → ShelfError
reading_refusal OutOfMemory = Memory
reading_refusal _ = Failed
