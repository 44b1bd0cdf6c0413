-- What lies outside of the program, before a call and behind it. Here stand names alone, and no
-- promise. What has a prime is as the call ended, what has the same name without one as it began:
-- `left` are the bytes that were left then, `left'` those that are left now. A count says the same
-- of one number, as `before` and `now`.
--
-- Where an object tells its content, clauses may speak of it: `tells` is their premise. Whether it
-- does is said by the type of the object. Those in memory tell all. Those of the system tell
-- nothing that is proved, so of them each such clause is what holds as far as the system does what
-- the object in memory does.
use Rattle.std.specs.Prelude.{◌≡◌, ℕ, ◌≤◌, Bool, List, [], ◌∷◌, ◌++◌, Option}
use Rattle.outside.specs.Dials.{Exchange}
use Rattle.outside.specs.Faults.{Rose}
use Rattle.outside.specs.Shelf.{SameNames}
use Rattle.outside.specs.Visits.{Visit, DoorPlace, door_place_of}
use Rattle.outside.specs.declared.disk.Disk.{Ghosts as DiskGhosts}
use Rattle.outside.specs.declared.links.Links.{Ghosts as LinksGhosts}
use Rattle.outside.specs.declared.shelf.Shelf.{Ghosts as ShelfGhosts}
use Rattle.outside.specs.declared.stream.Sink.{Ghosts as SinkGhosts}
use Rattle.outside.specs.declared.stream.Source.{Ghosts as SourceGhosts}
use Rattle.cqe_base.specs.Schema.{Text}
use Rattle.desk_crew.specs.Shelved.{told_on}

-- ---- the objects

-- A count of faults, before the call and behind it.
pub record Count : Type 0 where
  pub before : ℕ
  pub now : ℕ

-- The source of the input: the bytes that are left in it, all that it holds, its count of faults,
-- and the source itself.
pub record Input : Type 1 where
  pub tells : Type 0
  pub left : List ℕ
  pub left' : List ℕ
  pub held : List ℕ
  pub held' : List ℕ
  pub faults : Count
  pub Object : Type 0
  pub object : Object
  pub object' : Object

-- A sink, as that of the output or of the complaints: the bytes that were written to it, its count
-- of faults, and the sink itself.
pub record Output : Type 1 where
  pub tells : Type 0
  pub written : List ℕ
  pub written' : List ℕ
  pub faults : Count
  pub Object : Type 0
  pub object : Object
  pub object' : Object

-- The shelf, with its files and its disks.
pub record ShelfScene : Type 1 where
  -- what it holds is told
  pub tells : Type 0
  -- the bytes of the file of a name, where there is one
  pub file : Text → Option (List ℕ)
  pub file' : Text → Option (List ℕ)
  -- the names of the files that were looked at, in order
  pub looked : List Text
  pub looked' : List Text
  -- the type of its disks
  pub D : Type 0
  -- what may be said of a disk
  pub Disk : DiskGhosts D
  -- the disk that it holds under a name, where there is one
  pub disk : Text → Option D
  pub disk' : Text → Option D
  -- the disk of this name was taken and isn't back
  pub is_out' : Text → Bool
  -- the count of faults of the disk of a name
  pub disk_faults : Text → ℕ
  pub disk_faults' : Text → ℕ
  -- the number below which the marks of the records of the disk of a name may be told
  pub told' : Text → ℕ
  -- the shelf's own count
  pub faults : Count
  -- the shelf itself
  pub Object : Type 0
  pub object : Object
  pub object' : Object

-- The links, with the doors through which connections come, and the dials that call a standby.
pub record LinksScene : Type 1 where
  -- what comes in and goes back is told
  pub tells : Type 0
  -- how many connections were given by the doors that are back
  pub given : ℕ
  pub given' : ℕ
  -- how many are still to be given, those at doors that aren't back among them
  pub left : ℕ
  pub left' : ℕ
  -- how many of these are at hand, which is at no door
  pub at_hand : ℕ
  pub at_hand' : ℕ
  -- the finished connections of the doors that are back
  pub back : List Visit
  pub back' : List Visit
  -- how many doors aren't back
  pub out : ℕ
  pub out' : ℕ
  -- how many of the doors that are back had answered that no further connection comes
  pub ended : ℕ
  pub ended' : ℕ
  -- where the links listened, in order
  pub listened : List DoorPlace
  pub listened' : List DoorPlace
  -- their count of faults
  pub faults : Count
  -- how many dials aren't hung up
  pub dialling : ℕ
  pub dialling' : ℕ
  -- what those exchanged that were hung up
  pub exchanged : List Exchange
  pub exchanged' : List Exchange
  -- their second count: under each name the exchanges that failed of the dials of that name
  pub exchange_faults : Text → ℕ
  pub exchange_faults' : Text → ℕ
  -- the links themselves
  pub Object : Type 0
  pub object : Object
  pub object' : Object

-- All that a command may touch.
pub record Scene : Type 1 where
  pub shelf : ShelfScene
  pub input : Input
  pub output : Output
  pub links : LinksScene

-- ---- each of them by the members of its bound, of an object before a call and behind it

-- of a source
abbrev pub input_of : {S : Type 0} → SourceGhosts S → S → S → Input
input_of {S} Source old new = record {
  tells = Source.tells;
  left = Source.left old;
  left' = Source.left new;
  held = Source.held old;
  held' = Source.held new;
  faults = record { before = Source.faults old; now = Source.faults new };
  Object = S;
  object = old;
  object' = new;
}

-- of a sink
abbrev pub output_of : {K : Type 0} → SinkGhosts K → K → K → Output
output_of {K} Sink old new = record {
  tells = Sink.tells;
  written = Sink.written old;
  written' = Sink.written new;
  faults = record { before = Sink.faults old; now = Sink.faults new };
  Object = K;
  object = old;
  object' = new;
}

-- of a shelf, with its disks
abbrev pub shelf_of : {F D : Type 0} → ShelfGhosts F D → DiskGhosts D → F → F → ShelfScene
shelf_of {F} {D} Shelf Disk old new = record {
  tells = Shelf.tells;
  file = Shelf.file old;
  file' = Shelf.file new;
  looked = Shelf.looked old;
  looked' = Shelf.looked new;
  D = D;
  Disk = Disk;
  disk = Shelf.disk old;
  disk' = Shelf.disk new;
  is_out' = Shelf.is_out new;
  disk_faults = Shelf.disk_faults old;
  disk_faults' = Shelf.disk_faults new;
  told' = λ name. told_on Disk.tellable (Shelf.disk new name);
  faults = record { before = Shelf.faults old; now = Shelf.faults new };
  Object = F;
  object = old;
  object' = new;
}

-- of links, with their doors and ends
abbrev pub links_of : {L D C S K : Type 0} → LinksGhosts L D C S K → L → L → LinksScene
links_of {L} Links old new = record {
  tells = Links.tells;
  given = Links.given old;
  given' = Links.given new;
  left = Links.left old;
  left' = Links.left new;
  at_hand = Links.at_hand old;
  at_hand' = Links.at_hand new;
  back = Links.back old;
  back' = Links.back new;
  out = Links.out old;
  out' = Links.out new;
  ended = Links.ended old;
  ended' = Links.ended new;
  listened = Links.listened old;
  listened' = Links.listened new;
  faults = record { before = Links.faults old; now = Links.faults new };
  dialling = Links.dialling old;
  dialling' = Links.dialling new;
  exchanged = Links.exchanged old;
  exchanged' = Links.exchanged new;
  exchange_faults = Links.exchange_faults old;
  exchange_faults' = Links.exchange_faults new;
  Object = L;
  object = old;
  object' = new;
}

-- all of them together
abbrev pub scene_of : ShelfScene → Input → Output → LinksScene → Scene
scene_of shelf input output links =
    record { shelf = shelf; input = input; output = output; links = links }

-- ---- what may be said of an object

-- a count rose, or stands at the greatest number
abbrev pub HasRisen : Count → Type 0
HasRisen count = Rose count.before count.now

-- a count didn't fall
abbrev pub HasNotFallen : Count → Type 0
HasNotFallen count = count.before ≤ count.now

-- the input is the same object in every respect
abbrev pub SameInput : Input → Type 0
SameInput input = input.object' ≡ input.object

-- the output is the same object in every respect
abbrev pub SameOutput : Output → Type 0
SameOutput output = output.object' ≡ output.object

-- the shelf is the same object in every respect, with its disks
abbrev pub SameShelf : ShelfScene → Type 0
SameShelf shelf = shelf.object' ≡ shelf.object

-- The shelf may have changed, as by a look at a file, but no disk was touched: under each name is
-- the disk that was there, with the count of faults that it had.
abbrev pub SameDisks : ShelfScene → Type 0
SameDisks shelf =
    SameNames shelf.disk shelf.disk' × SameNames shelf.disk_faults shelf.disk_faults'

-- links are the same in every respect
abbrev pub SameLinks : LinksScene → Type 0
SameLinks links = links.object' ≡ links.object

-- the links listened once more, at this address and with so many doors
abbrev pub ListensAt : LinksScene → Text → ℕ → Type 0
ListensAt links address doors = links.listened' ≡ links.listened ++ door_place_of address doors ∷ []

-- nobody was called by a dial that was hung up
pub record CallsNobody (links : LinksScene) : Type 0 where
  pub exchanged : links.tells → links.exchanged' ≡ links.exchanged
  pub exchange_faults : SameNames links.exchange_faults links.exchange_faults'

-- all four are the same
pub record IsUntouched (s : Scene) : Type 0 where
  pub shelf : SameShelf s.shelf
  pub input : SameInput s.input
  pub output : SameOutput s.output
  pub links : SameLinks s.links
