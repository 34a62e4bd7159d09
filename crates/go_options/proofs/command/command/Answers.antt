use Rattle.std.proofs.Common.{◌≡◌, ◌∙◌, Some, ap, ap₂}
use Rattle.clap.specs.Simple.{with_rule}
use Rattle.clap.specs.Walk.{Rule}
use Rattle.clap.specs.declared.builder.value_parser.ValueParser.{ValueParser}
use Rattle.go_options.specs.CommandLine.{command_line, number_rule, range_of}
use Rattle.go_options.specs.NumberOptions.{NumberOption, depth_option, branch_option, cache_option, states_option}
use Rattle.go_options.specs.NumberOptions.{generate_option}
use Rattle.go_options.proofs.command.command.Goals as goal

-- a parser that takes the numbers of the option's range
abbrev Takes : NumberOption → ValueParser → Type 0
Takes option values = values ≡ range_of option

-- the rule with the option's name and default over this parser
abbrev rule_over : NumberOption → ValueParser → Rule
rule_over option values = record (number_rule option) { parser = Some values }

-- the command has the five options with their ranges, the flag and the files, in this order
pub returns : goal.returns
unfolding command_line
returns c =
    let depth : Takes depth_option c.bytes_from.result = c.bytes_from.ensures in
    let branch : Takes branch_option c.bytes_from-2.result = c.bytes_from-2.ensures in
    let cache : Takes cache_option c.range.result =
    rw (c.value_parser.ensures, c.new.ensures.start, c.new.ensures.end) at c.range.ensures in
    let states : Takes states_option c.range-2.result =
    rw (c.value_parser-2.ensures, c.new-2.ensures.start, c.new-2.ensures.end) at c.range-2.ensures in
    let generate : Takes generate_option c.range-3.result =
    rw (c.value_parser-3.ensures, c.new-3.ensures.start, c.new-3.ensures.end) at c.range-3.ensures in
    let one = c.in_ok-arg.ensures.shape c.option_or-depth.ensures.local
    ∙ ap₂ with_rule c.bare.ensures (c.option_or-depth.ensures.rule ∙ ap (rule_over depth_option) depth) in
    let two = c.in_ok-arg-2.ensures.shape c.option_or-branch.ensures.local
    ∙ ap₂ with_rule one (c.option_or-branch.ensures.rule ∙ ap (rule_over branch_option) branch) in
    let three = c.in_ok-arg-3.ensures.shape c.option_or-cache.ensures.local
    ∙ ap₂ with_rule two (c.option_or-cache.ensures.rule ∙ ap (rule_over cache_option) cache) in
    let four = c.in_ok-arg-4.ensures.shape c.option_or-states.ensures.local
    ∙ ap₂ with_rule three (c.option_or-states.ensures.rule ∙ ap (rule_over states_option) states) in
    let five = c.in_ok-arg-5.ensures.shape c.option-generate.ensures.local
    ∙ ap₂ with_rule four (c.option-generate.ensures.rule ∙ ap (rule_over generate_option) generate) in
    let six = c.in_ok-arg-6.ensures.shape c.flag.ensures.local ∙ ap₂ with_rule five c.flag.ensures.rule in
    c.in_ok-command.ensures.shape c.words.ensures.local ∙ ap₂ with_rule six c.words.ensures.rule
