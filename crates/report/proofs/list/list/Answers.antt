use Rattle.std.proofs.Common.{inl, inr}
use Rattle.std.specs.List.{concat}
use Rattle.std.proofs.KnownBytes.{Appends-trans}
use Rattle.report.specs.Lists.{Before}
use Rattle.report.proofs.Listing.{before_no_memory}
use Rattle.report.proofs.list.list.Goals as goal

pub returns-in_ok-printed-in-Err-Refused : goal.returns-in_ok-printed-in-Err-Refused
returns-in_ok-printed-in-Err-Refused g c =
    let listed = rw c.in-Err-Refused.field-0-is at c.in-Err-Refused.ensures in
    let printed = c.in_ok-printed-in-Err-Refused.ensures in
    let before : Before c.args.text.now listed.0 c.in_ok-printed-in-Err-Refused.printed = elim printed.0 [
      | inl same ↦ rw same listed.1
      | inr none ↦ rw none (before_no_memory c.args.text.now listed.0 c.in-Err-Refused.refused listed.1)
    ] in
    (listed.0, before, Appends-trans _ _ _ (concat listed.0) _ listed.2 printed.1)
