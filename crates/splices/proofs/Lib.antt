mod Gap
