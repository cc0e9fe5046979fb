use Rattle.std.proofs.Common.{◌≡◌, ◌<◌, true, false, length, sym, ap, ◌∙◌, rules}
use Rattle.std.specs.Vec.{with_items}
use Rattle.std.proofs.lemmas.List.{with_items_is}
use Rattle.semantics.specs.Sheets.{is_full}
use Rattle.listing.specs.Tallies.{Counted}
use Rattle.sheet.specs.Contents.{contents, in_force}
use Rattle.sheet.specs.Steps.{ended_at}
use Rattle.sheet.proofs.Steps.{if_looked, hands_out, comes_to_end}
use Rattle.sheet.proofs.paper.Sheet.next.Goals as goal

pub returns-in_default-true-true-clause-stepped : goal.returns-in_default-true-true-clause-stepped
returns-in_default-true-true-clause-stepped g c =
    let s = contents c.args.self.now in
    let u = contents c.look-found.new.self in
    let bank = g.M.Module.meaning c.args.self.now.bank in
    let set = c.look-found.new.plan in
    let size = length c.args.buffer.now in
    let looked = c.in_default-true-true.ensures in
    let laid : 0 < length s.levels = search rules in
    let fits : size ≡ length s.levels = search rules in
    let tallied : length s.tallies ≡ length s.levels = search rules in
    let levels : u.levels ≡ s.levels = ap (λ x. x.levels) looked.opened in
    let lines : u.rules ≡ s.rules = ap (λ x. x.rules) looked.opened in
    let handed : u.handed ≡ s.handed = ap (λ x. x.handed) looked.opened in
    let tallies : u.tallies ≡ s.tallies = ap (λ x. x.tallies) looked.opened in
    let written : (with_items c.look-found.new.self.parts.tallies c.count.new.tallies).items ≡ c.count.new.tallies = with_items_is c.look-found.new.self.parts.tallies c.count.new.tallies (search rules) in
    let counted : Counted set s.tallies (with_items c.look-found.new.self.parts.tallies c.count.new.tallies).items = search rules in
    hands_out bank s _ u.opened set size laid fits (if_looked s.listing (in_force bank s) s.opened u.opened set true size (length s.levels) fits looked.looked) tallied (search rules)

pub returns-in_default-true-false-clause-stepped : goal.returns-in_default-true-false-clause-stepped
returns-in_default-true-false-clause-stepped g c =
    let s = contents c.args.self.now in
    let u = contents c.look-found.new.self in
    let bank = g.M.Module.meaning c.args.self.now.bank in
    let set = c.look-found.new.plan in
    let size = length c.args.buffer.now in
    let looked = c.in_default-true-false.ensures in
    let laid : 0 < length s.levels = search rules in
    let fits : size ≡ length s.levels = search rules in
    let going : is_full u.listing ≡ false = search rules in
    comes_to_end bank s _ u.opened set size laid fits (if_looked s.listing (in_force bank s) s.opened u.opened set false size (length s.levels) fits looked.looked)
    (ap (λ x. is_full x.listing) (sym looked.opened) ∙ going) (ap (λ x. ended_at x u.opened) looked.opened)
