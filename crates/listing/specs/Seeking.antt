-- Where looking for the next plan goes on.
use Rattle.std.specs.Prelude.{◌≡◌, ℕ, Bool, false, List, [], reverse, take, Some, vec_items}
use Rattle.semantics.specs.declared.Literal.{Literal}
use Rattle.semantics.specs.Plans.{Program}
use Rattle.semantics.specs.Search.{back, Seeks}
use Rattle.semantics.specs.Sheets.{Listing, Fresh, Running, Ended, Full}
use Rattle.listing.specs.declared.choices.Choices.{Choices}

-- the open choices, the newest first: the first so many of all that there is room for
abbrev pub newest_of : ℕ → List Literal → List Literal
newest_of depth cs = reverse (take depth cs)

-- the choices that are left open
abbrev pub opened : Choices → List Literal
opened c = newest_of c.depth (vec_items c.room)

-- looking goes on where the listing stands: from the root, by a step back, or not at all
abbrev pub GoesOn : Listing → Program → List Literal → List Literal → List ℕ → Bool → Type 0
GoesOn Fresh p cs cs' set found = Seeks p (Some []) cs' set found
GoesOn Running p cs cs' set found = Seeks p (back cs) cs' set found
GoesOn Ended p cs cs' set found = (found ≡ false) × (cs' ≡ cs)
GoesOn Full p cs cs' set found = (found ≡ false) × (cs' ≡ cs)
