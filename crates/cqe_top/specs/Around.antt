-- The objects of a call, as they were before it and as they are behind it.
use Rattle.outside.specs.declared.disk.Disk.{Ghosts as DiskGhosts}
use Rattle.outside.specs.declared.links.Links.{Ghosts as LinksGhosts}
use Rattle.outside.specs.declared.shelf.Shelf.{Ghosts as ShelfGhosts}
use Rattle.outside.specs.declared.stream.Sink.{Ghosts as SinkGhosts}
use Rattle.outside.specs.declared.stream.Source.{Ghosts as SourceGhosts}
use Rattle.cqe_top.specs.Scene.{Scene, Output, shelf_of, input_of, output_of, links_of, scene_of}

-- the shelf, the source, the sink, the complaints and the links of a call; what has a prime is as
-- the call ended
pub record Around (F S K E L : Type 0) : Type 0 where
  pub shelf : F
  pub shelf' : F
  pub source : S
  pub source' : S
  pub sink : K
  pub sink' : K
  pub complaints : E
  pub complaints' : E
  pub links : L
  pub links' : L

module _ {F D S K E L Door Dial In Out : Type 0} (Shelf : ShelfGhosts F D) (Disk : DiskGhosts D)
    (Source : SourceGhosts S) (Sink : SinkGhosts K) (Complaints : SinkGhosts E)
    (Links : LinksGhosts L Door Dial In Out) where
  -- all that its command may touch
  abbrev pub scene_around : Around F S K E L → Scene
  scene_around call =
      scene_of (shelf_of Shelf Disk call.shelf call.shelf')
      (input_of Source call.source call.source') (output_of Sink call.sink call.sink')
      (links_of Links call.links call.links')

  -- and its complaints
  abbrev pub complaints_around : Around F S K E L → Output
  complaints_around call = output_of Complaints call.complaints call.complaints'
