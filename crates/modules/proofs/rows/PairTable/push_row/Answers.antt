use Rattle.std.proofs.Common.{map, length, is_ok, vec_items, vec_len, ap, ◌∙◌, arith, rules}
use lib.ListN.{length-map}
use Rattle.std.proofs.lemmas.Result.{err_from_is_err_and}
use Rattle.std.proofs.lemmas.Bool.{le-leb, lt-leb}
use Rattle.modules.specs.Tables.{row_of, rows_of}
use Rattle.modules.proofs.Entries.{push_few, push_fits, map_end}
use Rattle.modules.proofs.rows.PairTable.push_row.Goals as goal

pub invariant_of-self : goal.invariant_of-self
invariant_of-self c = record {
  few = push_few (is_ok c.push.result) (vec_len c.args.self.now.rows) (vec_len c.push.new.self) c.push.ensures.len (omega arith);
  within = push_fits (is_ok c.push.result) (vec_items c.args.self.now.rows) (vec_items c.push.new.self) c.args.row c.push.ensures.items c.args.self.now.within (omega arith);
}

pub returns : goal.returns
returns c = (
  lt-leb 64 (length (rows_of c.args.self.now)) (omega (arith, c.args.self.now.rows.ok.0, length-map (vec_items c.args.self.now.rows) row_of)),
  ap (map row_of) c.in_ok-push.ensures.items ∙ map_end _ _,
)

pub returns-in_err-push : goal.returns-in_err-push
returns-in_err-push c =
    let few = lt-leb 64 (length (rows_of c.args.self.now)) (omega (arith, c.args.self.now.rows.ok.0, length-map (vec_items c.args.self.now.rows) row_of)) in
    let p = err_from_is_err_and c.from_residual.result c.from_residual.ensures.1 in
    rw (p.1, p.2) (rw few, ap (map row_of) c.in_err-push.ensures.items)

pub returns-then-len-ge-ROWS : goal.returns-then-len-ge-ROWS
returns-then-len-ge-ROWS c =
    let many = le-leb 64 (length (rows_of c.args.self.now)) (omega (arith, c.args.self.now.rows.ok.0, length-map (vec_items c.args.self.now.rows) row_of)) in
    (rw many, search rules)
