use Rattle.std.proofs.Common.{◌≡◌, rules}
use Rattle.ulfm_book_tests.proofs.Jobs.{jobs_give}
use Rattle.ulfm_book_tests.proofs.tests.revoking.run_all.Goals as goal

pub returns : goal.returns
returns g c =
    let name = c.args.outside.now.words in
    jobs_give _ _ (λ m. m.view.words ≡ name) (λ d. d.1.view.words ≡ name) (λ job r named call. search rules) c.map_vec.result c.args.all c.map_vec.ensures.len c.map_vec.ensures.each c.requires
