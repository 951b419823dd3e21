mod command_lines
