use Rattle.std.proofs.Common.{arith}
use Rattle.clap.specs.Matches.{found_of}
use Rattle.go_options.specs.NumberOptions.{depth_option, branch_option, cache_option, states_option, generate_option}
use Rattle.go_options.proofs.RowLemmas.{number_from, only_from}
use Rattle.go_options.proofs.options.options_in.Goals as goal

-- a depth is at most 200, and so it is a byte
pub overflow_cast-result : goal.overflow_cast-result
overflow_cast-result c =
    omega (
      arith,
      (number_from (found_of c.args.matches.now)
          depth_option c.given_number.result c.requires.depth c.given_number.ensures).1,
    )

-- a branch is at most 12, and so it is a byte
pub overflow_cast-result-2 : goal.overflow_cast-result-2
overflow_cast-result-2 c =
    omega (
      arith,
      (number_from (found_of c.args.matches.now)
          branch_option c.given_number-2.result c.requires.branch c.given_number-2.ensures).1,
    )

-- each number is the one that was found, which lies in its range
pub returns-clause-ranges : goal.returns-clause-ranges
returns-clause-ranges c =
    let found = found_of c.args.matches.now in
    record {
      depth = number_from found depth_option c.given_number.result c.requires.depth c.given_number.ensures;
      branch = number_from found
          branch_option c.given_number-2.result c.requires.branch c.given_number-2.ensures;
      cache = number_from found
          cache_option c.given_number-3.result c.requires.cache c.given_number-3.ensures;
      states = number_from found
          states_option c.given_number-4.result c.requires.states c.given_number-4.ensures;
      generate = only_from found generate_option c.number.result c.requires.generate c.number.ensures;
    }
