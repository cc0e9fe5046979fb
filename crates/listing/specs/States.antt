-- How far a listing has come, as the model names it.
use Rattle.std.specs.Prelude.{ℕ, if◌then◌else◌, ◌==◌}
use Rattle.semantics.specs.Sheets.{Listing as Progress, Fresh as fresh, Running as running, Ended as ended, Full as full}
use Rattle.listing.specs.declared.state.Listing.{Listing}
use Rattle.listing.specs.declared.state.Listing.TheVariants.{Fresh, Running, Ended, Full}

-- the model's name
abbrev pub listing_of : Listing → Progress
listing_of Fresh = fresh
listing_of Running = running
listing_of Ended = ended
listing_of Full = full

-- the listing after a plan, with so many handed out: full at a million
abbrev pub after_plan : ℕ → Progress
after_plan handed = if handed == 1_000_000 then full else running
