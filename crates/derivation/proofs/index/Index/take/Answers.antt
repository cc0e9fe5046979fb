use Rattle.std.proofs.Common.{◌≡◌, ◌-◌, ◌<◌, length, set, take, vec_items, vec_len, sym, ap, ◌∙◌, subst, arith}
use Rattle.derivation.specs.Indexing.{lists_of, put_literal}
use Rattle.derivation.proofs.Waking.{list_read, list_written, atoms_kept, put_undone}
use Rattle.derivation.proofs.index.Index.take.Goals as goal

pub returns-in-Present-clause-lists : goal.returns-in-Present-clause-lists
returns-in-Present-clause-lists c line before e =
    let ix = c.args.self.now in
    let a = c.args.literal.now.atom in
    let list = c.index_mut.result.now in
    let f = subst (λ d. lists_of ix ≡ put_literal line d a before) c.in-Present.is e in
    let read = list_read ix a list c.requires c.index_mut.ensures.value in
    let within : a < length (lists_of ix) = omega (arith, c.requires, atoms_kept ix) in
    let len : vec_len list ≡ length (vec_items list) = omega (arith, list.ok.0) in
    let rest = c.pop.ensures.rest ∙ ap (λ n. take (n - 1) (vec_items list)) len ∙ ap (λ xs. take (length xs - 1) xs) (sym read) in
    list_written ix a c.pop.new.self ∙ ap (set (lists_of ix) a) rest ∙ put_undone (lists_of ix) before line a within f
